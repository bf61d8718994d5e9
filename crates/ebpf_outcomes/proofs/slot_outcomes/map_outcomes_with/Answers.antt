use Rattle.ebpf_object.specs.Stages.{chosen}
use Rattle.ebpf_outcomes.proofs.SlotOutcomes.{are_map_outcomes}
use Rattle.ebpf_outcomes.proofs.slot_outcomes.map_outcomes_with.Goals as goal

pub returns : goal.returns
returns c =
    are_map_outcomes (chosen c.args.steps.now) (chosen c.steps_before_maps.result) c.args.object.now c.in_ok-before.before c.in_ok-outcomes.outcomes c.steps_before_maps.ensures c.in_ok-before.ensures.stages c.in_ok-outcomes.ensures
