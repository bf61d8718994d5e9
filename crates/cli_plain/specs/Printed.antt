-- What `ebpf-link` prints of an object, and what `ebpf-inspect` prints of an object's programs.
use Rattle.std.specs.Prelude.{ℕ, List, [], ◌∷◌, ◌++◌, Option, Some, None, codes, ◌≡◌, ⊤, Bool, true}
use Rattle.std.specs.Prelude.{false, Ok, IsSome, MatchOption}
use Rattle.std.specs.FinMap.{entries}
use Rattle.std.specs.Fmt.{decimal, digits}
use Rattle.std.specs.List.{flat_map, find}
use Rattle.std.specs.Map.{keys_of}
use Rattle.std.specs.Io.KnownBytes.{Appends}
use Rattle.std.specs.Str.{bytes_eq}
use Rattle.ebpf_object.specs.LinkedPrograms.{function_of_named_program}
use Rattle.ebpf_object.specs.declared.object.Object.{Object}
use Rattle.ebpf_model.specs.declared.function.Function.{Function}
use Rattle.ebpf_btf.specs.TypeInfo.{TypeInfo}
use Rattle.ebpf_inspect.specs.Inspected.{IsInspected}
use Rattle.ebpf_inspect.specs.declared.report.ProgramReport.{ProgramReport}
use Rattle.ebpf_ksyms.specs.Sources.{Source}
use Rattle.ebpf_model.specs.Symbols.{key_address, key_section}
use Rattle.ebpf_object.specs.Objects.{object_of}
use Rattle.ebpf_reloc.specs.declared.link_map.CodeCopy.{CodeCopy}
use Rattle.ebpf_linker.specs.declared.link_map.PlacedReference.{PlacedReference}
use Rattle.ebpf_parts.specs.declared.parse_mode.ParseMode.TheVariants.{Strict}
use Rattle.cli_common.specs.DefaultPasses.{default_passes}
use Rattle.cli_common.specs.SlotText.{head_line, program_text}
use Rattle.cli_plain.specs.Linked.{kernel_types}

-- ---- an object

abbrev pub program_text_if : List ℕ → Option Function → List ℕ
program_text_if name None = []
program_text_if name (Some f) = program_text name f.instructions

-- the lines of the program of a name, none where there is none
abbrev pub program_lines : Object → List ℕ → List ℕ
program_lines o name = program_text_if name (function_of_named_program o name)

-- the program of a name, or all in byte order of their names
abbrev pub printed : Object → Option (List ℕ) → List ℕ
printed o (Some name) = program_lines o name
printed o None = flat_map (program_lines o) (keys_of (entries o.programs))

-- ---- what `ebpf-inspect` prints of an object's programs

-- an address, of base 16
abbrev pub address_text : ℕ → List ℕ
address_text address = codes "0x" ++ digits 16 false address

-- `copy BASE SLOTS SECTION ADDRESS NAME`
abbrev pub copy_line : CodeCopy → List ℕ
copy_line copy =
    (codes "copy " ++ decimal copy.base ++ codes " " ++ decimal copy.slots ++ codes " "
    ++ decimal (key_section copy.key) ++ codes " ")
    ++ address_text (key_address copy.key) ++ (codes " " ++ copy.name ++ 10 ∷ [])

abbrev pub word_of : Bool → List ℕ
word_of true = codes "call"
word_of false = codes "load"

-- `ref PLACE BASE call` or `ref PLACE BASE load`
abbrev pub reference_line : PlacedReference → List ℕ
reference_line r =
    codes "ref " ++ decimal r.place ++ codes " " ++ decimal r.base ++ codes " " ++ word_of r.is_call
    ++ 10 ∷ []

-- `program NAME slots N`, and a line for each copy and for each reference
abbrev pub report_text : ProgramReport → List ℕ
report_text r =
    head_line r.name r.slots ++ flat_map copy_line r.copies ++ flat_map reference_line r.references

abbrev pub report_text_if : Option ProgramReport → List ℕ
report_text_if None = []
report_text_if (Some r) = report_text r

-- the report of a name
abbrev pub report_named : List ProgramReport → List ℕ → Option ProgramReport
report_named reports name = find (λ r. bytes_eq r.name name) reports

-- the program of a name, or all in the order of the reports
abbrev pub reports_text : List ProgramReport → Option (List ℕ) → List ℕ
reports_text reports (Some name) = report_text_if (report_named reports name)
reports_text reports None = flat_map report_text reports

-- ---- a run

-- what the programs of a file are made of, after all passes
pub record HasInspected (file : List ℕ) (btf : Option (List ℕ)) (lines : Source)
    (reports : List ProgramReport)
    : Type 0 where
  pub types : Option TypeInfo
  pub kernel : kernel_types btf ≡ Ok types
  pub inspected : IsInspected (default_passes types (object_of file).maps) lines Strict file reports

-- The file is inspected, it has the program that is named, and the writer, whose bytes were these
-- before and are these now, has got the lines of that program or of all.
pub record HasListed (file : List ℕ) (btf : Option (List ℕ)) (lines : Source)
    (program : Option (List ℕ)) (before now : Option (List ℕ))
    : Type 0 where
  pub reports : List ProgramReport
  pub inspected : HasInspected file btf lines reports
  pub named : MatchOption program ⊤ (λ name. IsSome (report_named reports name))
  pub text : Appends before now (reports_text reports program)
