use Rattle.std.proofs.Common.{◌≡◌}
use Rattle.std.specs.Prelude.{fold}
use Rattle.ebpf_initial_slots.specs.InitialSlots.{by_map_and_index, slots_fault, slots_put, with_slot}
use Rattle.ebpf_initial_slots.proofs.slots.gather.Given as goal

-- with what the relocations that are left put, all is there; they have the fault that all have
abbrev pub invariant-loop-relocation : goal.invariant-loop-relocation
invariant-loop-relocation l = record {
  found : fold with_slot l.found (slots_put l.object l.section l.variables l.relocation-iterator) ≡ by_map_and_index (slots_put l.object l.section l.variables l.fn.relocations);
  fault : slots_fault l.object l.section l.variables l.relocation-iterator ≡ slots_fault l.object l.section l.variables l.fn.relocations;
}
