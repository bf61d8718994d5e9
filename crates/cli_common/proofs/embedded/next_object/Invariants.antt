use Rattle.std.proofs.Common.{◌≡◌, ◌<◌, ◌≤◌, ℕ, false, drop}
use Rattle.cli_common.specs.EmbeddedObjects.{is_object}
use Rattle.cli_common.proofs.embedded.next_object.Given as goal

abbrev pub invariant-loop-start : goal.invariant-loop-start
invariant-loop-start l = (place : ℕ) → l.from ≤ place → place < l.start → is_object (drop place l.file) ≡ false
