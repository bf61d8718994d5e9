-- What a run with status 0 has done, and why a program of the command line prints nothing, or not
-- all.
use Rattle.std.specs.Prelude.{⊤, ℕ, List, Option, IsSome, MatchOption, ◌≡◌, Some, None, Bool, true}
use Rattle.std.specs.Prelude.{false, Ok, Err}
use Rattle.std.specs.FinMap.{get}
use Rattle.std.specs.Io.KnownBytes.{Appends}
use Rattle.ebpf_inspect.specs.declared.report.ProgramReport.{ProgramReport}
use Rattle.ebpf_ksyms.specs.Sources.{Source}
use Rattle.ebpf_object.specs.declared.object.Object.{Object}
use Rattle.ebpf_btf.specs.TypeInfo.{TypeInfo}
use Rattle.ebpf_object.specs.Objects.{object_of}
use Rattle.ebpf_object.specs.Prepared.{IsFirstPrepareFault}
use Rattle.ebpf_object.specs.Stages.{Chosen}
use Rattle.ebpf_parts.specs.declared.parse_mode.ParseMode.TheVariants.{Strict}
use Rattle.ebpf_btf.specs.Memory as types
use Rattle.ebpf_object.specs.Prepared as preparing
use Rattle.cli_common.specs.DefaultPasses.{default_passes}
use Rattle.cli_plain.specs.Linked.{IsFileLinked, kernel_types}
use Rattle.cli_plain.specs.Printed.{report_named, printed}
use Rattle.ebpf_object.specs.LinkedPrograms.{function_of_named_program}
use Rattle.cli_plain.specs.declared.failure.Failure.{Failure}
use Rattle.cli_plain.specs.declared.failure.Failure.TheVariants.{NoProgram, CannotRead, Btf}
use Rattle.cli_plain.specs.declared.failure.Failure.TheVariants.{Preparing, CannotWrite, Memory}

-- ---- what a run of `ebpf-link` with status 0 has done

-- The file is linked, it has the program that is named, and the writer, whose bytes were these
-- before and are these now, has got the lines of that program or of all.
pub record HasPrinted (file : List ℕ) (btf : Option (List ℕ)) (lines : Source)
    (program : Option (List ℕ)) (before now : Option (List ℕ))
    : Type 0 where
  pub object : Object
  pub linked : IsFileLinked file btf lines object
  pub named : MatchOption program ⊤ (λ name. IsSome (get object.programs name))
  pub text : Appends before now (printed object program)

-- ---- what contracts of private functions name and no public one

-- an object has no program of the name that it refuses
abbrev pub Lacks : Object → List ℕ → Failure → Type 0
Lacks o name (NoProgram absent) = (absent.now ≡ name) × (function_of_named_program o name ≡ None)
Lacks o name _ = ⊥

abbrev pub LacksNamed : Object → Option (List ℕ) → Failure → Type 0
LacksNamed o None f = ⊥
LacksNamed o (Some name) f = Lacks o name f

-- no report has the name that is refused
abbrev pub LacksReport : List ProgramReport → List ℕ → Failure → Type 0
LacksReport reports name (NoProgram absent) =
    (absent.now ≡ name) × (report_named reports name ≡ None)
LacksReport reports name _ = ⊥

abbrev pub LacksNamedReport : List ProgramReport → Option (List ℕ) → Failure → Type 0
LacksNamedReport reports None f = ⊥
LacksNamedReport reports (Some name) f = LacksReport reports name f

-- ---- why a program of the command line prints nothing, or not all

-- memory was refused, or a writer failed: nothing that a file says
abbrev pub is_outside : Failure → Bool
is_outside (CannotRead path) = false
is_outside (Btf e) = types.is_btf_memory e
is_outside (Preparing e) = preparing.is_prepare_memory e
is_outside (NoProgram name) = false
is_outside CannotWrite = true
is_outside Memory = true

-- a writer failed
abbrev pub is_writers : Failure → Bool
is_writers CannotWrite = true
is_writers _ = false

-- preparing a file with these passes has this first fault
abbrev pub IsPreparingFailure : Chosen → Source → List ℕ → Failure → Type 0
IsPreparingFailure steps lines file (Preparing e) = IsFirstPrepareFault steps lines Strict file e
IsPreparingFailure steps lines file _ = ⊥

-- What a refusal says of the files is so: the kernel's types can't be read, or, where they can,
-- preparing the file has this first fault, or, where it has none, no program has the name.
abbrev pub IsFailureOf : List ℕ → Option (List ℕ) → Source → Option (List ℕ) → Failure → Type 0
IsFailureOf file btf lines program (Btf e) = kernel_types btf ≡ Err e
IsFailureOf file btf lines program (Preparing e) =
    (kernel : Option TypeInfo)
    × (kernel_types btf ≡ Ok kernel)
    × IsFirstPrepareFault (default_passes kernel (object_of file).maps) lines Strict file e
IsFailureOf file btf lines program (NoProgram name) =
    (o : Object)
    × IsFileLinked file btf lines o
    × (program ≡ Some name.now)
    × (get o.programs name.now ≡ None)
IsFailureOf file btf lines program (CannotRead path) = ⊥
IsFailureOf file btf lines program CannotWrite = ⊥
IsFailureOf file btf lines program Memory = ⊥
