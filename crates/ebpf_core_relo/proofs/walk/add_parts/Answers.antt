use Rattle.std.proofs.Common.{ap, ◌∙◌, refl}
use Rattle.ebpf_base.proofs.Lists.{rest_more}
use Rattle.ebpf_core.specs.Searches.{Sides}
use Rattle.ebpf_core_relo.specs.SpanInputs.{inputs_of}
use Rattle.ebpf_core_relo.proofs.FirstRefusal.{section_more, section_slots_more}
use Rattle.ebpf_core_relo.proofs.WalkedRecords.{parts_applied}
use Rattle.ebpf_core_relo.proofs.walk.add_parts.Goals as goal

pub loop-part-preserved : goal.loop-part-preserved
loop-part-preserved c =
    let inputs = λ (sides : Sides). inputs_of sides c.args.walk.now.function_spans.now in
    let before = c.loop-part in
    let here = rest_more c.args.parts.now before.part-index c.part-item.result c.loop-part-test.true c.part-item.is in
    record {
      search = c.in_ok-add_part.ensures.search ∙ before.invariant.search;
      records = λ lists.
          section_more (inputs c.args.search.now) (inputs before.search) (ap inputs before.invariant.search) c.args.parts.now before.part-index c.part-item.result here
          c.part-item.result.1 refl before.outcomes.written c.add_part.new.outcomes.written c.in_ok-add_part.ensures.written _ _ (c.in_ok-add_part.ensures.records lists)
          ∙ before.invariant.records lists;
      written =
          section_slots_more (inputs c.args.search.now) (inputs before.search) (ap inputs before.invariant.search) c.args.parts.now before.part-index c.part-item.result here
          c.part-item.result.1 refl before.outcomes.written c.add_part.new.outcomes.written c.in_ok-add_part.ensures.written
          ∙ before.invariant.written;
      applied = λ stops.
          parts_applied (inputs c.args.search.now) (inputs before.search) (ap inputs before.invariant.search) c.args.parts.now before.part-index c.part-item.result here before.outcomes.written
          c.add_part.new.outcomes.written (c.in_ok-add_part.ensures.stops stops)
          ∙ before.invariant.applied stops;
    }
