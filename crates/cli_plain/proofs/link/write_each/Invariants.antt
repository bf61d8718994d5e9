use Rattle.std.proofs.Common.{ℕ, List, Option, drop}
use Rattle.std.specs.Io.KnownBytes.{Appends}
use Rattle.std.specs.List.{flat_map}
use Rattle.ebpf_base.specs.Maps.{lent_bytes}
use Rattle.cli_plain.specs.Printed.{program_lines}
use Rattle.cli_plain.proofs.link.write_each.Given as goal

-- with the lines that are left, all are there
abbrev pub invariant-loop-name : goal.invariant-loop-name
invariant-loop-name g l =
    (all : Option (List ℕ)) → Appends (g.W.Write.contents l.out) all (flat_map (program_lines l.object) (lent_bytes (drop l.name-index l.names)))
    → Appends (g.W.Write.contents l.initial.out) all (flat_map (program_lines l.fn.object) (lent_bytes l.fn.names))
