use Rattle.ebpf_linker.proofs.Walks.{Laying}
use Rattle.ebpf_linker.proofs.copies.write_copies.Given as goal

abbrev pub invariant-loop-function : goal.invariant-loop-function
invariant-loop-function l = Laying l.functions.bodies.now l.functions.references.now l.bases l.order l.out.items l.function-index
