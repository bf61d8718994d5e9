use Rattle.std.proofs.Common.{◌∙◌, ap, lit<, map}
use Rattle.std.proofs.lemmas.Iterator.Consumers.{YieldsList-at, YieldsList-end}
use Rattle.std.proofs.lemmas.Iterator.Splits.{YieldsList-from_str_split}
use Rattle.ebpf_core.proofs.paths.pieces_of.Goals as goal

pub returns : goal.returns
returns c =
    let split = YieldsList-from_str_split 58 c.args.access.now (lit< tt) c.split-piece-items.ensures.text c.split-piece-items.ensures.has_more c.split-piece-items.ensures.pattern in
    let all = YieldsList-end (YieldsList-at c.into_iter-piece-iterator.ensures.into_iter_gives split) c.loop-piece.yielded _ c.loop-piece.yielded_by c.next.result _ c.in-None.is c.next.ensures.steps in
    ap (map (λ piece. piece.now)) c.loop-piece.invariant ∙ all.0
