use Rattle.std.proofs.Common.{◌≡◌, ℕ, ◌<◌, List, get_or, true}
use Rattle.ebpf_core_candidates.specs.Candidates.{is_hash_marked, name_hash}
use Rattle.ebpf_ksyms.proofs.named.marks_of.Given as goal
use denote.Ref.{Bor}

-- the names so far are marked
abbrev pub invariant-loop-name : goal.invariant-loop-name
invariant-loop-name l = (k : ℕ) (d : Bor (List ℕ)) → k < l.name-index → is_hash_marked l.marks.items (name_hash (get_or l.names k d).now) ≡ true
