use Rattle.std.proofs.Common.{ℕ, List, Option, drop}
use Rattle.std.specs.Io.KnownBytes.{Appends}
use Rattle.std.specs.List.{flat_map}
use Rattle.cli_plain.specs.Printed.{report_text}
use Rattle.cli_plain.proofs.inspect.write_all.Given as goal

-- with the lines that are left, all are there
abbrev pub invariant-loop-report : goal.invariant-loop-report
invariant-loop-report g l =
    (all : Option (List ℕ)) → Appends (g.W.Write.contents l.out) all (flat_map report_text (drop l.report-index l.reports))
    → Appends (g.W.Write.contents l.initial.out) all (flat_map report_text l.fn.reports)
