use Rattle.std.proofs.Common.{◌∷◌, []}
use Rattle.std.proofs.lemmas.List.{append-nil, append_assoc}
use Rattle.cli_common.specs.EmbeddedObjects.{AreObjects}
use Rattle.cli_common.proofs.embedded.embedded_objects.Goals as goal

pub loop-range-preserved : goal.loop-range-preserved
unfolding AreObjects
loop-range-preserved c = λ rest all.
    let next : AreObjects c.args.file.now c.loop-range.from (c.in-Some.range ∷ rest) = (c.in-Some.ensures.found, all) in
    rw (c.in_ok-push.ensures.items, append_assoc) (c.loop-range.invariant (c.in-Some.range ∷ rest) next)

pub returns : goal.returns
unfolding AreObjects
returns c = rw append-nil at (c.loop-range.invariant [] c.in_default.ensures.found)
