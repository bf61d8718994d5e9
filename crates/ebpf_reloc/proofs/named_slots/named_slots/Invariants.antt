use Rattle.std.proofs.Common.{◌≡◌, ◌++◌}
use Rattle.std.specs.List.{flat_map}
use Rattle.ebpf_model.specs.Walks.{IsWithinFunction}
use Rattle.ebpf_reloc.specs.NamedSlots.{named_in, named_slots, naming_of}
use Rattle.ebpf_reloc.proofs.named_slots.named_slots.Given as goal

-- the slots so far, and those of the functions that are left; the walk is ready for the next one
abbrev pub invariant-loop-key : goal.invariant-loop-key
invariant-loop-key l = record {
  found : l.found ++ flat_map (named_in (naming_of l.naming) l.relocations) l.key-iterator ≡ named_slots (naming_of l.naming) l.relocations l.functions;
  ready : IsWithinFunction l.relocations l.walk;
}
