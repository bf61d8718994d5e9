use Rattle.std.proofs.Common.{ℕ, List, Option, drop}
use Rattle.std.specs.Io.KnownBytes.{Appends}
use Rattle.std.specs.List.{flat_map}
use Rattle.cli_plain.specs.Printed.{reference_line}
use Rattle.cli_plain.proofs.printed_text.write_references.Given as goal

-- with the lines that are left, all are there
abbrev pub invariant-loop-reference : goal.invariant-loop-reference
invariant-loop-reference g l =
    (all : Option (List ℕ)) → Appends (g.W.Write.contents l.out) all (flat_map reference_line (drop l.reference-index l.references)) → Appends (g.W.Write.contents l.initial.out) all (flat_map reference_line l.fn.references)
