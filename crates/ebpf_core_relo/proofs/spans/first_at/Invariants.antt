use Rattle.std.proofs.Common.{◌≡◌, drop}
use Rattle.ebpf_core_relo.specs.PrivateContracts.{first_at}
use Rattle.ebpf_core_relo.proofs.spans.first_at.Given as goal

-- the first that holds the offset is in the runs that are left
abbrev pub invariant-loop-run : goal.invariant-loop-run
invariant-loop-run l = first_at l.offset (drop l.run-index l.runs) l.last ≡ first_at l.offset l.runs l.last
