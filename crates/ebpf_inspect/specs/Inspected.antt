-- The reports of a file's programs after linking.
use Rattle.std.specs.Prelude.{◌≡◌, ℕ, true, List, [], ◌∷◌, Some}
use Rattle.std.specs.FinMap.{get}
use Rattle.ebpf_inspect.specs.declared.report.ProgramReport.{ProgramReport}
use Rattle.ebpf_ksyms.specs.Sources.{Source}
use Rattle.ebpf_object.specs.Headline.{Headline, linkable}
use Rattle.ebpf_object.specs.LinkedPrograms.{programs_in_order}
use Rattle.ebpf_object.specs.Prepared.{Stages}
use Rattle.ebpf_object.specs.Stages.{Chosen}
use Rattle.ebpf_object.specs.declared.object.Object.{Object}
use Rattle.ebpf_reloc.specs.Linking.{IsLinkMapAt, ProgramValue, key_of, IsLinked}
use Rattle.ebpf_reloc.specs.Laws.{MatchesLinked}
use Rattle.ebpf_model.specs.declared.function.Function.{Function}
use Rattle.ebpf_reloc.specs.declared.link_map.LinkMap.{LinkMap}
use Rattle.ebpf_parts.specs.declared.parse_mode.ParseMode.{ParseMode}

-- the chosen passes, and the linking of programs
abbrev pub with_linking : Chosen → Chosen
with_linking steps = record steps { calls = true }

abbrev pub link_map_of : ProgramReport → LinkMap
link_map_of r = record { copies = r.copies; references = r.references }

-- The report of a program, from the object before and after linking: its name, the slots of its
-- linked function, and their link map. So the copies are the program and each function that it
-- reaches, in order, and have all slots. The slot of each reference holds the distance to a listed
-- copy of the function that it refers to.
pub record IsReport (unlinked linked : Object) (program : ProgramValue) (r : ProgramReport)
    : Type 0 where
  pub named : r.name ≡ program.name
  pub function : Function
  pub stands : get linked.functions (key_of program) ≡ Some function
  pub slots : r.slots ≡ function.instructions
  pub is_linked : IsLinked (linkable unlinked) (key_of program) function
  pub mapped : IsLinkMapAt (linkable unlinked) (key_of program) (link_map_of r)
  pub tells : MatchesLinked (linkable unlinked) (key_of program) (link_map_of r) function mapped
      is_linked

-- a report of each program
abbrev pub AreReports : Object → Object → List ProgramValue → List ProgramReport → Type 0
AreReports unlinked linked [] [] = Unit {0}
AreReports unlinked linked (p ∷ ps) (r ∷ rs) =
    IsReport unlinked linked p r × AreReports unlinked linked ps rs
AreReports unlinked linked [] (r ∷ rs) = ⊥
AreReports unlinked linked (p ∷ ps) [] = ⊥

-- the reports of an object's programs, in byte order of their names, after the chosen passes and
-- linking
pub record AreReportsOf (steps : Chosen) (lines : Source) (o : Object)
    (reports : List ProgramReport)
    : Type 0 where
  pub linked : Object
  pub stages : Stages (with_linking steps) lines o linked
  pub each : AreReports stages.unlinked linked (programs_in_order linked.programs) reports

-- the reports of the programs of a file in a parsing mode; the headline holds of these programs
pub record IsInspected (steps : Chosen) (lines : Source) (mode : ParseMode) (bytes : List ℕ)
    (reports : List ProgramReport)
    : Type 0 where
  pub linked : Object
  pub headline : Headline (with_linking steps) lines mode bytes linked
  pub each : AreReports headline.prepared.stages.unlinked linked (programs_in_order linked.programs)
      reports
