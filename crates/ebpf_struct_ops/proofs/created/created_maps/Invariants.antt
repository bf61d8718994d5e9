use Rattle.std.proofs.Common.{◌≡◌, ◌++◌, drop}
use Rattle.ebpf_struct_ops.specs.CreatedMaps.{created_fault, created_maps}
use Rattle.ebpf_struct_ops.proofs.created.created_maps.Given as goal

-- with the maps of the variables that are left, all are there; they have the fault that all have
abbrev pub invariant-loop-variable : goal.invariant-loop-variable
invariant-loop-variable l = record {
  maps : l.all ++ created_maps l.kernel (drop l.variable-index l.variables) ≡ created_maps l.kernel l.variables;
  fault : created_fault l.kernel (drop l.variable-index l.variables) ≡ created_fault l.kernel l.variables;
}
