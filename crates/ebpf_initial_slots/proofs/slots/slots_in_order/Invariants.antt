use Rattle.std.proofs.Common.{◌≡◌, ◌++◌, map}
use Rattle.std.specs.FinMap.{entries}
use Rattle.std.specs.List.{flat_map}
use Rattle.ebpf_base.specs.Maps.{by_bytes}
use Rattle.ebpf_initial_slots.specs.InitialSlots.{slots_in_order}
use Rattle.ebpf_initial_slots.proofs.slots.slots_in_order.Given as goal

-- with the slots of the maps that are left, all are there
abbrev pub invariant-loop-own : goal.invariant-loop-own
invariant-loop-own l = l.all ++ flat_map (λ m. map (λ s. s.1) (entries m.1)) (by_bytes l.own-iterator) ≡ slots_in_order l.found
