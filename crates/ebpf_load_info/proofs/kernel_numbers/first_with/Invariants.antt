use Rattle.std.proofs.Common.{◌≡◌, drop}
use Rattle.std.specs.Prelude.{find}
use Rattle.ebpf_load_info.specs.KernelNumbers.{has_number}
use Rattle.ebpf_load_info.proofs.kernel_numbers.first_with.Given as goal

-- the first of the enumerators that are left is the first of all
abbrev pub invariant-loop-k : goal.invariant-loop-k
invariant-loop-k l = find (has_number l.types l.end l.number) (drop l.k l.enumerators) ≡ find (has_number l.types l.end l.number) l.enumerators
