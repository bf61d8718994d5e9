use Rattle.std.proofs.Common.{◌≡◌, drop}
use Rattle.ebpf_core_relo.specs.Absences.{has_member, members_of_id}
use Rattle.ebpf_core_relo.proofs.absence.+has_member.Given as goal

abbrev pub decreases-has_member : goal.decreases-has_member
decreases-has_member l = l.levels

-- whether the name stands among the members that are left is whether it stands among all
abbrev pub invariant-loop-k : goal.invariant-loop-k
invariant-loop-k l = has_member l.target l.name l.levels (members_of_id l.target l.type_id) ≡ has_member l.target l.name l.levels (drop l.k l.members)
