use Rattle.std.proofs.Common.{◌≡◌, ◌++◌, map}
use Rattle.ebpf_struct_ops.specs.ObjectVariables.{member_of, members_of_variable}
use Rattle.ebpf_struct_ops.proofs.variables.members_of_variable.Given as goal

-- with the members that are left, all are there
abbrev pub invariant-loop-member : goal.invariant-loop-member
invariant-loop-member l = l.all ++ map (member_of l.types l.ty l.base l.found) l.member-iterator ≡ members_of_variable l.types l.ty l.base l.found
