use Rattle.std.proofs.Common.{◌≡◌, ◌++◌}
use Rattle.std.specs.List.{flat_map}
use Rattle.ebpf_model.specs.Walks.{IsWithinFunction}
use Rattle.ebpf_reloc.specs.Passes.{rule_edit_of}
use Rattle.ebpf_reloc.specs.SlotOutcomes.{outcomes_in, slot_outcomes}
use Rattle.ebpf_reloc.proofs.slot_outcomes.slot_outcomes.Given as goal

-- the outcomes so far, and those of the functions that are left; the walk is ready for the next one
abbrev pub invariant-loop-key : goal.invariant-loop-key
invariant-loop-key l = record {
  outcomes : l.outcomes ++ flat_map (outcomes_in (rule_edit_of l.rule) l.relocations) l.key-iterator ≡ slot_outcomes (rule_edit_of l.rule) l.relocations l.functions;
  ready : IsWithinFunction l.relocations l.walk;
}
