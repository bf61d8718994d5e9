use Rattle.ebpf_load_info.proofs.Wanted.{AreFoundSoFar}
use Rattle.ebpf_load_info.proofs.attach_all.wanted_ids.Given as goal

-- what is found, or else among the types that are left, is what is wanted
abbrev pub invariant-loop-id : goal.invariant-loop-id
invariant-loop-id l = AreFoundSoFar l.types l.wanted l.id l.ids
