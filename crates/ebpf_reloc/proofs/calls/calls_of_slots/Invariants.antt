use Rattle.std.proofs.Common.{◌≡◌, ◌+◌, ◌*◌, ◌++◌, drop, None}
use Rattle.ebpf_model.specs.Walks.{IsBefore}
use Rattle.ebpf_reloc.specs.PrivateContracts.{numbered_target_at, calls_by, calls_of_slots}
use Rattle.ebpf_reloc.specs.SlotTargets.{read}
use Rattle.ebpf_reloc.proofs.calls.calls_of_slots.Given as goal

-- the calls so far, and those of what is left; the walk has not passed the next slot
abbrev pub invariant-loop-slot : goal.invariant-loop-slot
invariant-loop-slot l = record {
  calls : l.calls.items ++ calls_by (numbered_target_at (read l.parts) l.numbers.keys.now l.caller l.function) None l.slot (drop l.slot l.function.instructions) ≡ calls_of_slots (read l.parts) l.numbers.keys.now l.caller l.function;
  others : l.walk ≡ record l.fn.walk { next = l.walk.next; ahead = l.walk.ahead };
  before : IsBefore l.walk (l.function.section_offset + 8 * l.slot);
}
