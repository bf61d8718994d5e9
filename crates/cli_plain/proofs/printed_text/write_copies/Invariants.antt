use Rattle.std.proofs.Common.{ℕ, List, Option, drop}
use Rattle.std.specs.Io.KnownBytes.{Appends}
use Rattle.std.specs.List.{flat_map}
use Rattle.cli_plain.specs.Printed.{copy_line}
use Rattle.cli_plain.proofs.printed_text.write_copies.Given as goal

-- with the lines that are left, all are there
abbrev pub invariant-loop-copy : goal.invariant-loop-copy
invariant-loop-copy g l =
    (all : Option (List ℕ)) → Appends (g.W.Write.contents l.out) all (flat_map copy_line (drop l.copy-index l.copies)) → Appends (g.W.Write.contents l.initial.out) all (flat_map copy_line l.fn.copies)
