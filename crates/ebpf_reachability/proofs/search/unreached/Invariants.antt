use Rattle.std.proofs.Common.{◌≡◌, replicate, None}
use Rattle.ebpf_reachability.proofs.search.unreached.Given as goal

abbrev pub invariant-loop : goal.invariant-loop
invariant-loop l = l.states.items ≡ replicate l.counter None
