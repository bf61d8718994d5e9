use Rattle.std.proofs.Common.{◌≡◌, ◌+◌, ◌-◌, ◌*◌, ◌++◌, length}
use Rattle.std.specs.List.{filter_map, range_with_len}
use Rattle.ebpf_model.specs.Walks.{IsBefore, walked_relocations}
use Rattle.ebpf_reloc.specs.NamedSlots.{named_at, named_of, naming_of}
use Rattle.ebpf_reloc.proofs.named_slots.add_named_of.Given as goal

-- the slots so far, and those with names of what is left; the walk has not passed the next slot
abbrev pub invariant-loop-slot : goal.invariant-loop-slot
invariant-loop-slot l = record {
  found : l.found ++ filter_map (named_at (naming_of l.naming) (walked_relocations l.fn.walk) l.key l.function) (range_with_len l.slot (length l.function.instructions - l.slot)) ≡ l.fn.found ++ named_of (naming_of l.naming) (walked_relocations l.fn.walk) l.key l.function;
  others : l.walk ≡ record l.fn.walk { next = l.walk.next; ahead = l.walk.ahead };
  before : IsBefore l.walk (l.function.section_offset + 8 * l.slot);
}
