use Rattle.std.proofs.Common.{◌≡◌}
use Rattle.std.specs.List.{find}
use Rattle.ebpf_struct_ops.specs.Relocations.{begins_at, member_there}
use Rattle.ebpf_struct_ops.proofs.relocations.member_there.Given as goal

-- the first of the members that are left is the first of all
abbrev pub invariant-loop-member : goal.invariant-loop-member
invariant-loop-member l = find (begins_at l.ty l.offset) l.member-iterator ≡ member_there l.ty l.offset
