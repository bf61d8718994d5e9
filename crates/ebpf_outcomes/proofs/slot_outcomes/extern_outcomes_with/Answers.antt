use Rattle.std.proofs.Common.{rules, ◌≡◌, ◌∙◌, ap}
use Rattle.std.specs.Prelude.{is_some}
use Rattle.ebpf_object.specs.Stages.{chosen}
use Rattle.ebpf_outcomes.proofs.SlotOutcomes.{are_extern_outcomes}
use Rattle.ebpf_outcomes.specs.SlotOutcomes.{extern_slots_if}
use Rattle.ebpf_outcomes.proofs.slot_outcomes.extern_outcomes_with.Goals as goal

pub returns : goal.returns
returns g c =
    let before = c.resolve.new.object in
    let writes : c.is_some.result ≡ is_some c.args.steps.now.externs = search rules in
    are_extern_outcomes (chosen c.args.steps.now) (chosen c.steps_before_resolution.result) (g.K.SymbolSource.source c.args.kallsyms) c.args.object.now c.in_ok-before.before before c.in_ok-outcomes.outcomes
    c.steps_before_resolution.ensures c.in_ok-before.ensures.stages c.in_ok-resolve.ensures.ok (c.in_ok-outcomes.ensures ∙ ap (λ b. extern_slots_if b before) writes)
