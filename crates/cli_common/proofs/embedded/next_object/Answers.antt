use Rattle.std.proofs.Common.{◌≡◌, ◌≤◌, ℕ, false, drop, sym, ◌∙◌}
use Rattle.std.proofs.lemmas.List.{take_rest}
use borrow.Author.Count.{below_more}
use Rattle.cli_common.specs.EmbeddedObjects.{is_object}
use Rattle.cli_common.proofs.embedded.next_object.Goals as goal

pub loop-start-preserved : goal.loop-start-preserved
loop-start-preserved c =
    let here : is_object (drop c.loop-start.start c.args.file.now) ≡ false =
    rw take_rest at (sym c.is_object.ensures ∙ c.if-is_object.false) in
    let all = below_more (λ (place : ℕ). c.args.from ≤ place → is_object (drop place c.args.file.now) ≡ false) c.loop-start.start
    (λ place below behind. c.loop-start.invariant place behind below) (λ _. here) in
    λ place behind below. all place below behind
