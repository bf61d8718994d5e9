use Rattle.std.proofs.Common.{ℕ, List, Option, drop, map}
use Rattle.std.specs.Io.KnownBytes.{Appends}
use Rattle.std.specs.List.{flat_map}
use Rattle.cli_link.specs.Written.{program_name, shown_lines}
use Rattle.cli_link.proofs.bytes.write_named_programs.Given as goal

-- with the lines that are left, all are there
abbrev pub invariant-loop-program : goal.invariant-loop-program
invariant-loop-program g l =
    (all : Option (List ℕ)) → Appends (g.W.Write.contents l.out) all (flat_map (shown_lines l.object) (map program_name (drop l.program-index l.programs)))
    → Appends (g.W.Write.contents l.initial.out) all (flat_map (shown_lines l.fn.object) (map program_name l.fn.programs))
