use Rattle.std.proofs.Common.{arith}
use Rattle.ebpf_core.proofs.LocalSides.{part_next, part_refused}
use Rattle.ebpf_core.proofs.local_walk.walk.Goals as goal

pub returns-in_err-next : goal.returns-in_err-next
returns-in_err-next c =
    part_refused c.args.local.now c.args.request.number c.args.request.access.now c.args.parts.now c.loop-part.part-index c.loop-part.from _ c.loop-part.invariant
    (omega arith) _ _ c.from_residual.ensures.1 c.in_err-next.ensures

pub loop-part-preserved : goal.loop-part-preserved
loop-part-preserved c =
    part_next c.args.local.now c.args.request.number c.args.request.access.now c.args.parts.now c.loop-part.part-index c.loop-part.from _ c.loop-part.invariant
    (omega arith) _ c.in_ok-next.ensures
