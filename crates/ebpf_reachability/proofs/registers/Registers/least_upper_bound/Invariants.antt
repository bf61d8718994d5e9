use Rattle.std.proofs.Common.{◌≡◌, ℕ, ◌<◌, length}
use Rattle.std.specs.Prelude.{slice_index_or, None}
use Rattle.ebpf_reachability.specs.PrivateContracts.{common}
use Rattle.ebpf_reachability.proofs.registers.Registers.least_upper_bound.Given as goal

-- what the registers so far have in common
abbrev pub invariant-loop-register : goal.invariant-loop-register
invariant-loop-register l = record {
  as_many : length l.numbers ≡ 11;
  so_far : (k : ℕ) → k < l.register → slice_index_or l.numbers k None ≡ common (slice_index_or l.self.numbers k None) (slice_index_or l.other.numbers k None);
}
