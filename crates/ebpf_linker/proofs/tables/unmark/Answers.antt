use Rattle.std.proofs.Common.{length, refl}
use Rattle.ebpf_linker.proofs.Unmarked.{unmarked_all}
use Rattle.ebpf_linker.proofs.tables.unmark.Goals as goal

pub loop-function-init : goal.loop-function-init
loop-function-init c = record { size = refl; left = c.requires.marked }

pub returns : goal.returns
returns c = unmarked_all (length c.args.flags.now.items) c.args.functions.now c.loop-function.flags.items c.loop-function.function-index c.loop-function.invariant c.loop-function-test.false
