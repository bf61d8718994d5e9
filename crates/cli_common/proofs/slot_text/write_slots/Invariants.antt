use Rattle.std.proofs.Common.{ℕ, List, Option, drop}
use Rattle.std.specs.Io.KnownBytes.{Appends}
use Rattle.std.specs.List.{flat_map}
use Rattle.cli_common.specs.SlotText.{slot_line}
use Rattle.cli_common.proofs.slot_text.write_slots.Given as goal

-- with the lines that are left, all are there
abbrev pub invariant-loop-slot : goal.invariant-loop-slot
invariant-loop-slot g l =
    (all : Option (List ℕ)) → Appends (g.W.Write.contents l.out) all (flat_map slot_line (drop l.slot-index l.slots)) → Appends (g.W.Write.contents l.initial.out) all (flat_map slot_line l.fn.slots)
