use Rattle.ebpf_linker.proofs.Walks.{Placing}
use Rattle.ebpf_linker.proofs.bases.copy_bases.Given as goal

abbrev pub invariant-loop-function : goal.invariant-loop-function
invariant-loop-function l = Placing l.bodies l.first l.initial.bases.items l.functions l.bases.items l.end l.function-index
