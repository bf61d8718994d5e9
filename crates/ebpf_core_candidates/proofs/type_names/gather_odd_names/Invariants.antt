use Rattle.std.proofs.Common.{◌≡◌, ℕ}
use Rattle.std.specs.FinMap.{get}
use Rattle.ebpf_core_candidates.proofs.Names.{odd_below}
use Rattle.ebpf_core_candidates.proofs.type_names.gather_odd_names.Given as goal

abbrev pub invariant-loop-id : goal.invariant-loop-id
invariant-loop-id l = (n : ℕ) → get l.odd n ≡ odd_below l.btf l.id n
