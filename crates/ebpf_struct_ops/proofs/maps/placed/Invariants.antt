use Rattle.std.proofs.Common.{◌≡◌, ◌++◌, drop}
use Rattle.ebpf_struct_ops.specs.StructOpsMaps.{members_fault, placements, programs}
use Rattle.ebpf_struct_ops.proofs.maps.placed.Given as goal

-- with what the members that are left put, all is there; they have the fault that all have
abbrev pub invariant-loop-member : goal.invariant-loop-member
invariant-loop-member l = record {
  placements : l.placements ++ placements l.variable l.kernel l.ty l.into (drop l.member-index l.members) ≡ placements l.variable l.kernel l.ty l.into l.members;
  programs : l.programs ++ programs l.variable l.kernel l.ty l.into (drop l.member-index l.members) ≡ programs l.variable l.kernel l.ty l.into l.members;
  fault : members_fault l.variable l.kernel l.ty l.into (drop l.member-index l.members) ≡ members_fault l.variable l.kernel l.ty l.into l.members;
}
