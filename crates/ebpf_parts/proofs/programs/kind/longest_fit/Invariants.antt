use Rattle.std.proofs.Common.{◌≡◌, drop}
use Rattle.std.specs.Prelude.{filter}
use Rattle.std.specs.List.{fold}
use Rattle.std.specs.Option.{option_copied}
use Rattle.ebpf_parts.specs.ProgramTypes.{name_fits, longer, longest_fit}
use Rattle.ebpf_parts.proofs.programs.kind.longest_fit.Given as goal

-- the row so far and those left to see come to the row of all
abbrev pub invariant-loop-row : goal.invariant-loop-row
invariant-loop-row l =
    fold longer (option_copied l.found) (filter (name_fits l.name) (drop l.row-index l.rows)) ≡ longest_fit l.name l.rows
