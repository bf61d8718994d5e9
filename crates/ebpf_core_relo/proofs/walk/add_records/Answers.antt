use Rattle.std.proofs.Common.{ap, ◌∙◌}
use Rattle.ebpf_core.specs.Searches.{Sides}
use Rattle.ebpf_core_relo.specs.SpanInputs.{inputs_of}
use Rattle.ebpf_core_relo.specs.PrivateContracts.{found_number}
use Rattle.std.proofs.lemmas.List.{drop_more}
use Rattle.ebpf_core_relo.proofs.FirstRefusal.{record_more, slots_more}
use Rattle.ebpf_core_relo.proofs.WalkedRecords.{rest_applied}
use Rattle.ebpf_core_relo.proofs.walk.add_records.Goals as goal

pub loop-relocation-preserved : goal.loop-relocation-preserved
loop-relocation-preserved c =
    let inputs = λ (sides : Sides). inputs_of sides c.args.walk.now.function_spans.now in
    let before = c.loop-relocation in
    let found = found_number c.args.section.found in
    let here = drop_more c.args.relocations.now before.relocation-index _ c.loop-relocation-test.true in
    record {
      search = c.in_ok-add_record.ensures.search ∙ before.invariant.search;
      records = λ lists.
          record_more (inputs c.args.search.now) (inputs before.search) (ap inputs before.invariant.search) c.args.section.name found c.requires
          c.args.relocations.now before.relocation-index _ here before.outcomes.written c.add_record.new.outcomes.written c.in_ok-add_record.ensures.written _ _ (c.in_ok-add_record.ensures.records lists)
          ∙ before.invariant.records lists;
      written =
          slots_more (inputs c.args.search.now) (inputs before.search) (ap inputs before.invariant.search) c.args.section.name found c.requires
          c.args.relocations.now before.relocation-index _ here before.outcomes.written c.add_record.new.outcomes.written c.in_ok-add_record.ensures.written
          ∙ before.invariant.written;
      applied = λ stops.
          rest_applied (inputs c.args.search.now) (inputs before.search) (ap inputs before.invariant.search) found c.args.relocations.now before.relocation-index _ here before.outcomes.written
          c.add_record.new.outcomes.written (c.in_ok-add_record.ensures.stops stops)
          ∙ before.invariant.applied stops;
    }
