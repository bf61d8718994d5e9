use Rattle.std.proofs.Common.{◌≡◌, drop}
use Rattle.std.specs.List.{find}
use Rattle.ebpf_struct_ops.specs.Relocations.{holds_place}
use Rattle.ebpf_struct_ops.proofs.relocations.holder.Given as goal

-- the first of the variables that are left is the first of all
abbrev pub invariant-loop-variable : goal.invariant-loop-variable
invariant-loop-variable l = find (holds_place l.place) (drop l.variable-index l.variables) ≡ find (holds_place l.place) l.variables
