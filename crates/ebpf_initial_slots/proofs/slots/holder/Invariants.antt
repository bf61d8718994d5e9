use Rattle.std.proofs.Common.{◌≡◌, drop}
use Rattle.std.specs.List.{find}
use Rattle.ebpf_initial_slots.specs.InitialSlots.{holds_slot}
use Rattle.ebpf_initial_slots.proofs.slots.holder.Given as goal

-- the first of the variables that are left is the first of all
abbrev pub invariant-loop-variable : goal.invariant-loop-variable
invariant-loop-variable l = find (holds_slot l.place) (drop l.variable-index l.variables) ≡ find (holds_slot l.place) l.variables
