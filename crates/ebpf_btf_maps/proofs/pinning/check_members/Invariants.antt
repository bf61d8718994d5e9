use Rattle.std.proofs.Common.{◌≡◌}
use Rattle.ebpf_base.specs.Faults.{first_some}
use Rattle.ebpf_btf_maps.specs.Pinnings.{member_fault}
use Rattle.ebpf_btf_maps.proofs.pinning.check_members.Given as goal

-- the members that are left have the fault of all
abbrev pub invariant-loop-member : goal.invariant-loop-member
invariant-loop-member l = first_some (member_fault l.types l.name_offset) l.member-iterator ≡ first_some (member_fault l.types l.name_offset) l.members
