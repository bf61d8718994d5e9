use Rattle.std.proofs.Common.{◌≡◌, ◌+◌, ◌*◌, ◌++◌, length}
use Rattle.std.specs.Prelude.{unwrap_or}
use Rattle.std.specs.FinMap.{empty}
use Rattle.ebpf_model.specs.Walks.{walked_relocations, left_in, IsBefore}
use Rattle.ebpf_reloc.specs.Passes.{rule_edit_of}
use Rattle.ebpf_reloc.specs.SlotOutcomes.{outcomes_of, outcomes_scanned}
use Rattle.ebpf_reloc.proofs.slot_outcomes.add_outcomes_of.Given as goal

-- the outcomes so far, and those of the relocations that are left; the walk has not passed the end of the function
abbrev pub invariant-loop-offset : goal.invariant-loop-offset
invariant-loop-offset l = record {
  outcomes : l.outcomes ++ outcomes_scanned (rule_edit_of l.rule) l.key l.start l.slots l.pending (left_in l.walk) ≡ l.fn.outcomes ++ outcomes_of (rule_edit_of l.rule) (unwrap_or (walked_relocations l.fn.walk) empty) l.key l.function;
  others : l.walk ≡ record l.fn.walk { next = l.walk.next; ahead = l.walk.ahead };
  before : IsBefore l.walk (l.function.section_offset + 8 * length l.function.instructions);
}

abbrev pub decreases-loop-offset : goal.decreases-loop-offset
decreases-loop-offset l = length (left_in l.walk)
