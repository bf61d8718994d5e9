-- What `ebpf link --bytes` writes: the lines of `ebpf-link`, but for names as they are shown.
use Rattle.std.specs.Prelude.{◌≡◌, ℕ, List, [], Option, Some, None}
use Rattle.std.specs.Io.KnownBytes.{Appends}
use Rattle.std.specs.FinMap.{empty}
use Rattle.std.specs.List.{flat_map}
use Rattle.cli_common.specs.CompletedObjects.{with_maps_of}
use Rattle.cli_common.specs.DefaultPasses.{default_passes}
use Rattle.cli_common.specs.SlotText.{program_text}
use Rattle.ebpf_btf_maps.specs.Arenas.{arena_section}
use Rattle.ebpf_exceptions.specs.Callbacks.{completed_callbacks}
use Rattle.ebpf_object.specs.LinkedPrograms.{function_of_named_program}
use Rattle.ebpf_kconfig.specs.KconfigMaps.{passes_made}
use Rattle.ebpf_ksyms.specs.Sources.{Source, Text}
use Rattle.ebpf_model.specs.declared.function.Function.{Function}
use Rattle.ebpf_object.specs.Headline.{Headline, IsFinished}
use Rattle.ebpf_object.specs.Objects.{object_as}
use Rattle.ebpf_object.specs.Prepared.{IsParsed, Stages}
use Rattle.ebpf_object.specs.Stages.{Chosen}
use Rattle.ebpf_object.specs.declared.object.Object.{Object}
use Rattle.ebpf_parts.specs.declared.parse_mode.ParseMode.TheVariants.{Lenient}
use Rattle.cli_common.specs.Shown.{shown}
use Rattle.cli_common.specs.declared.programs.ObjectProgram.{ObjectProgram}
use Rattle.cli_prepare.specs.KernelValues.{externs_of}
use Rattle.cli_prepare.specs.Opened.{IsDefined}
use Rattle.cli_prepare.specs.declared.kernel.Kernel.{Kernel}

abbrev pub program_name : ObjectProgram → List ℕ
program_name program = program.name

abbrev pub shown_text_if : List ℕ → Option Function → List ℕ
shown_text_if name None = []
shown_text_if name (Some f) = program_text (shown name) f.instructions

-- the lines of the program of a name, none where there is none
abbrev pub shown_lines : Object → List ℕ → List ℕ
shown_lines o name = shown_text_if name (function_of_named_program o name)

-- the lines of programs, one after the other
abbrev pub shown_programs : Object → List (List ℕ) → List ℕ
shown_programs o names = flat_map (shown_lines o) names

-- The writer has got the lines of these programs of what all stages leave of an object, behind the
-- bytes that it had before.
--
-- A worked example: `names` is the one name `p`, and the linked function of `p` has the two slots
-- `r0 = 0` and `exit`. `text` says that the writer has these three lines more than before:
--
--   program p slots 2
--   b7 00 00 00 00 00 00 00
--   95 00 00 00 00 00 00 00
--
-- `finished` says that the programs of `object` are linked, and that its CO-RE relocations are
-- carried. `headline` says the same of the file, where the object is as a file is parsed.
pub record WritesFinished (steps : Chosen) (lines : Source) (parsed : Object)
    (names : List (List ℕ)) (before now : Option (List ℕ))
    : Type 0 where
  pub object : Object
  pub stages : Stages steps lines parsed object
  pub finished : IsFinished (passes_made stages) parsed object
  pub headline : (file : List ℕ) → IsParsed Lenient file parsed
      → Headline steps lines Lenient file object
  pub text : Appends before now (shown_programs object names)

-- The same of the object of a file, in lenient parsing, with its maps completed and its kconfig
-- externs defined by the values of a kernel. Where the file has no kconfig externs, no variables in
-- an arena and no exception callbacks, the headline holds of the file.
pub record HasWritten (file : List ℕ) (kernel : Kernel) (names : List (List ℕ))
    (before now : Option (List ℕ))
    : Type 0 where
  pub opened : Object
  pub defined : IsDefined file kernel opened
  pub written : WritesFinished (default_passes kernel.types opened.maps)
      (Text kernel.symbols.items) opened names before now
  pub headline : externs_of (object_as Lenient file) ≡ []
      → arena_section file ≡ None
      → completed_callbacks file (with_maps_of file) ≡ empty
      → Headline (default_passes kernel.types opened.maps) (Text kernel.symbols.items) Lenient file
      written.object
