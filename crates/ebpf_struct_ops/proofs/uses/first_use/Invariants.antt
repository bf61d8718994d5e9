use Rattle.std.proofs.Common.{◌≡◌, drop}
use Rattle.ebpf_struct_ops.specs.Uses.{first_use}
use Rattle.ebpf_struct_ops.proofs.uses.first_use.Given as goal

-- the maps that are left have the use that all have
abbrev pub invariant-loop-map : goal.invariant-loop-map
invariant-loop-map l = first_use (drop l.map-index l.maps) l.name ≡ first_use l.maps l.name
