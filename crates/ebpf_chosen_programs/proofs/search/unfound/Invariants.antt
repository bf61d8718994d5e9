use Rattle.std.proofs.Common.{◌≡◌, replicate, false}
use Rattle.ebpf_chosen_programs.proofs.search.unfound.Given as goal

abbrev pub invariant-loop : goal.invariant-loop
invariant-loop l = l.flags.items ≡ replicate l.counter false
