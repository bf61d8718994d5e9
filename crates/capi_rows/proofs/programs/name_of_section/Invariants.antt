use Rattle.std.proofs.Common.{◌≡◌}
use Rattle.std.specs.FinMap.{entries}
use Rattle.ebpf_base.specs.Maps.{by_bytes}
use Rattle.capi_rows.specs.ProgramRows.{name_of_section_number}
use Rattle.capi_rows.proofs.programs.name_of_section.Given as goal

-- what is found among the sections that are left is what is found among all
abbrev pub invariant-loop-name : goal.invariant-loop-name
invariant-loop-name l = name_of_section_number (by_bytes l.name-iterator) l.number ≡ name_of_section_number (entries l.fn.sections) l.fn.number
