use Rattle.std.proofs.Common.{◌≡◌, drop}
use Rattle.ebpf_base.specs.Faults.{first_some}
use Rattle.ebpf_struct_ops.specs.Uses.{map_fault, uses_fault}
use Rattle.ebpf_struct_ops.proofs.uses.check_uses.Given as goal

-- the maps that are left have the fault that all have
abbrev pub invariant-loop-map : goal.invariant-loop-map
invariant-loop-map l = first_some (map_fault l.maps) (drop l.map-index l.maps) ≡ uses_fault l.maps
