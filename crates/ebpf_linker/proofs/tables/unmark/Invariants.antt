use Rattle.std.proofs.Common.{length}
use Rattle.ebpf_linker.proofs.Unmarked.{Unmarking}
use Rattle.ebpf_linker.proofs.tables.unmark.Given as goal

abbrev pub invariant-loop-function : goal.invariant-loop-function
invariant-loop-function l = Unmarking (length l.fn.flags.items) l.functions l.flags.items l.function-index
