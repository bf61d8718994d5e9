use Rattle.std.proofs.Common.{◌≡◌, ◌++◌, map}
use Rattle.ebpf_base.specs.Maps.{by_bytes}
use Rattle.cli_common.specs.ObjectPrograms.{program_row, program_rows}
use Rattle.cli_common.proofs.programs.object_programs.Given as goal

-- with the rows of the programs that are left, all are there
abbrev pub invariant-loop-name : goal.invariant-loop-name
invariant-loop-name l =
    map program_row l.programs.items ++ map (λ e. (e.0, (e.1.section_index, e.1.address))) (by_bytes l.name-iterator)
    ≡ program_rows l.object.programs
