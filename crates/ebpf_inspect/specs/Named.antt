-- The reports of an object's programs, linked as values apart from the object.
use Rattle.std.specs.Prelude.{◌≡◌, true, List}
use Rattle.ebpf_inspect.specs.Inspected.{link_map_of, AreReports}
use Rattle.ebpf_inspect.specs.declared.report.ProgramReport.{ProgramReport}
use Rattle.ebpf_object.specs.LinkedPrograms.{programs_in_order}
use Rattle.ebpf_object.specs.Stages.{LinksPrograms}
use Rattle.ebpf_object.specs.declared.object.Object.{Object}
use Rattle.ebpf_model.specs.declared.function.Function.{Function}
use Rattle.ebpf_reloc.specs.Linking.{ProgramValue, key_of, IsLinked, IsLinkMapAt}
use Rattle.ebpf_reloc.specs.SlotTargets.{LinkableValue}

-- the report of a program: its name, the slots of its linked function, and their link map
pub record IsProgramReport (parts : LinkableValue) (program : ProgramValue) (r : ProgramReport)
    : Type 0 where
  pub named : r.name ≡ program.name
  pub function : Function
  pub is_linked : IsLinked parts (key_of program) function
  pub slots : r.slots ≡ function.instructions
  pub mapped : IsLinkMapAt parts (key_of program) (link_map_of r)

-- the reports of all programs, and the object after linking them
abbrev pub WithLinked : Object → List ProgramReport → Type 0
WithLinked o reports =
    (linked : Object)
    × LinksPrograms true o linked
    × AreReports o linked (programs_in_order o.programs) reports
