use Rattle.std.proofs.Common.{◌<◌, ◌≤◌, get_or, ℕ}
use Rattle.ebpf_core_candidates.proofs.type_names.is_ascii.Given as goal

abbrev pub invariant-loop-byte : goal.invariant-loop-byte
invariant-loop-byte l = (k d : ℕ) → k < l.byte-index → get_or l.bytes k d ≤ l.greatest
