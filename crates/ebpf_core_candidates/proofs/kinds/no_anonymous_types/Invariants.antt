use Rattle.std.proofs.Common.{◌≡◌, [], length, slice_index_or, ℕ}
use Rattle.ebpf_core_candidates.proofs.kinds.no_anonymous_types.Given as goal

abbrev pub invariant-loop-kind : goal.invariant-loop-kind
invariant-loop-kind l = record {
  kinds : length l.lists.items ≡ l._kind;
  empty : (k : ℕ) → slice_index_or l.lists.items k [] ≡ [];
}
