use Rattle.std.proofs.Common.{◌≤◌, length, ℕ}
use Rattle.cli_common.specs.EmbeddedObjects.{Encloses}
use Rattle.cli_common.proofs.EnclosesFirst.{EnclosesFirst}
use Rattle.cli_common.proofs.embedded.object_length.Given as goal

abbrev pub invariant-loop-index : goal.invariant-loop-index
invariant-loop-index l = record {
  inside : l.end ≤ length l.bytes;
  covers : EnclosesFirst l.bytes l.index l.end;
  least : (other : ℕ) → Encloses l.bytes other → l.end ≤ other;
}
