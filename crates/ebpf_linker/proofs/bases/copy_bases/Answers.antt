use Rattle.std.proofs.Common.{refl, sym, ap, length, get_or}
use Rattle.ebpf_linker.proofs.Walks.{bases_next, body_read, no_body}
use Rattle.ebpf_linker.proofs.bases.copy_bases.Goals as goal

pub loop-function-preserved : goal.loop-function-preserved
loop-function-preserved c =
    let lt = c.requires.functions c.loop-function.function-index 0 c.loop-function-test.true in
    bases_next c.args.bodies.now c.args.first c.args.functions.now c.loop-function.bases.items c.loop-function.end c.loop-function.function-index _ _ _ c.loop-function.invariant c.loop-function-test.true refl (sym (ap length (body_read c.args.bodies.now (get_or c.args.functions.now c.loop-function.function-index 0) no_body lt)))
