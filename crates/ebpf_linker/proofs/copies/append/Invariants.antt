use Rattle.ebpf_linker.proofs.Whole.{Copying}
use Rattle.ebpf_linker.proofs.copies.append.Given as goal

abbrev pub invariant-loop-i : goal.invariant-loop-i
invariant-loop-i l = Copying l.fn.out.items l.out.items l.body l.calls l.bases l.i l.next
