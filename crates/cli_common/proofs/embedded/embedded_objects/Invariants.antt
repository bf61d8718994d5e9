use Rattle.std.proofs.Common.{length, ◌-◌, List, ◌++◌}
use Rattle.cli_common.specs.declared.embedded.ObjectRange.{ObjectRange}
use Rattle.cli_common.specs.EmbeddedObjects.{AreObjects}
use Rattle.cli_common.proofs.embedded.embedded_objects.Given as goal

-- whatever objects stand behind those that are found, all of them stand in the file
abbrev pub invariant-loop-range : goal.invariant-loop-range
invariant-loop-range l = (rest : List ObjectRange) → AreObjects l.file l.from rest → AreObjects l.file 0 (l.found.items ++ rest)

abbrev pub decreases-loop-range : goal.decreases-loop-range
decreases-loop-range l = length l.file - l.from
