-- A file, prepared: its object after the chosen stages, one after the other, or the fault of the
-- first that has one.
use Rattle.std.specs.Prelude.{◌≡◌, ⊤, ℕ, Bool, true, false, List, [], Some, None, MatchBool, ◌||◌}
use Rattle.std.specs.Prelude.{Result, Ok, Err, Option}
use Rattle.ebpf_core_relo.specs.Records.{without_texts_at}
use Rattle.ebpf_core_relo.specs.Records as types_relocation
use Rattle.ebpf_ksyms.specs.Addresses as resolving
use Rattle.ebpf_ksyms.specs.Sources.{Source, Reader}
use Rattle.ebpf_ksyms.specs.declared.error.KsymsError.{KsymsError}
use Rattle.ebpf_ksyms.specs.declared.error.KsymsError.TheVariants.{KallsymsAccessError}
use Rattle.ebpf_model.specs.Memory as relocating
use Rattle.ebpf_object.specs.Objects.{object_as, parse_fault_as}
use Rattle.ebpf_object.specs.Stages.{RelocatesTypes, TypesFault, fds_fault, Resolves}
use Rattle.ebpf_object.specs.Stages.{ResolvingFault, with_externs_if, externs_fault_if}
use Rattle.ebpf_object.specs.Stages.{LinksPrograms, LinkingFault, Chosen, given_fault}
use Rattle.ebpf_object.specs.Stages.{unwritten_fault}
use Rattle.ebpf_object.specs.Stages as stage
use Rattle.ebpf_object.specs.declared.object.Object.{Object}
use Rattle.ebpf_object.specs.declared.prepare_error.PrepareError.{PrepareError}
use Rattle.ebpf_object.specs.declared.prepare_error.PrepareError.TheVariants.{Parse, Types, Maps}
use Rattle.ebpf_object.specs.declared.prepare_error.PrepareError.TheVariants.{Ksyms, Externs, Calls}
use Rattle.ebpf_object.specs.declared.prepare_error.PrepareError.TheVariants.{OutOfMemory}
use Rattle.ebpf_object.specs.declared.prepare_error.PrepareError.TheVariants.{MissingDescriptor}
use Rattle.ebpf_object.specs.declared.prepare_error.PrepareError.TheVariants.{UnknownMap}
use Rattle.ebpf_object.specs.declared.prepare_error.PrepareError.TheVariants.{UnwrittenExtern}
use Rattle.ebpf_parts.specs.Memory as parsing
use Rattle.ebpf_parts.specs.declared.parse_mode.ParseMode.{ParseMode}

-- ---- the stages in order, for what is chosen and the lines of the kernel's symbols

-- From an object to what the stages leave of it: relocated to types, then with descriptors, then
-- with externs resolved, then as linking begins. All descriptors and all externs can be written.
-- Where nothing may be missing, each slot's own map has a descriptor, each name is a map's, and
-- each call of an extern is written when linking begins.
pub record Stages (steps : Chosen) (lines : Source) (o after : Object) : Type 0 where
  pub relocated : Object
  pub fds_written : Object
  pub resolved : Object
  pub unlinked : Object
  pub given : given_fault steps.descriptors steps.complete o ≡ None
  pub types : RelocatesTypes steps.target o relocated
  pub maps_sound : fds_fault steps.descriptors relocated ≡ None
  pub maps : fds_written ≡ stage.fds_written steps.descriptors relocated
  pub resolution : Resolves steps.kernel lines fds_written resolved
  pub externs_sound : externs_fault_if steps.externs resolved ≡ None
  pub externs : unlinked ≡ with_externs_if steps.externs resolved
  pub written : unwritten_fault steps.calls steps.complete unlinked ≡ None
  pub calls : LinksPrograms steps.calls unlinked after

-- ---- the fault of a stage

-- the steps before programs are linked, before externs are written, before they are resolved,
-- before descriptors are written
abbrev pub before_calls : Chosen → Chosen
before_calls steps = record steps { calls = false }

abbrev pub before_externs : Chosen → Chosen
before_externs steps = record (before_calls steps) { externs = false }

abbrev pub before_resolution : Chosen → Chosen
before_resolution steps = record (before_externs steps) { kernel = None }

abbrev pub before_maps : Chosen → Chosen
before_maps steps = record (before_resolution steps) { descriptors = None }

-- a fault in what some steps leave of an object
pub record IsFaultAfter (steps : Chosen) (lines : Source) (o : Object) (Fault : Object → Type 0)
    : Type 0 where
  pub before : Object
  pub stages : Stages steps lines o before
  pub fault : Fault before

module _ (steps : Chosen) (lines : Source) where
  -- the fault of a pass, in what the steps before it leave; a call that is not written is refused
  -- before programs are linked
  abbrev pub IsPassFault : Object → PrepareError → Type 0
  IsPassFault o (Types e) = TypesFault steps.target o e
  IsPassFault o (Maps e) =
      IsFaultAfter (before_maps steps) lines o (λ before.
      fds_fault steps.descriptors before ≡ Some e)
  IsPassFault o (Ksyms e) =
      IsFaultAfter (before_resolution steps) lines o (λ before.
      ResolvingFault steps.kernel lines before e)
  IsPassFault o (Externs e) =
      IsFaultAfter (before_externs steps) lines o (λ before.
      externs_fault_if steps.externs before ≡ Some e)
  IsPassFault o (UnwrittenExtern name) =
      IsFaultAfter (before_calls steps) lines o (λ before.
      unwritten_fault steps.calls steps.complete before ≡ Some name)
  IsPassFault o (Calls e) =
      IsFaultAfter (before_calls steps) lines o (λ before.
      (unwritten_fault steps.calls steps.complete before ≡ None)
      × LinkingFault steps.calls before e)
  IsPassFault o _ = ⊥

  -- why descriptors are refused before anything is written
  abbrev pub given_fault_of : Object → Option PrepareError
  given_fault_of o = given_fault steps.descriptors steps.complete o

  -- the fault of a stage: that of the descriptors, else that of a pass
  abbrev pub IsStageFault : Object → PrepareError → Type 0
  IsStageFault o (Parse e) = ⊥
  IsStageFault o OutOfMemory = ⊥
  IsStageFault o (MissingDescriptor map) = given_fault_of o ≡ Some (MissingDescriptor map)
  IsStageFault o (UnknownMap name) = given_fault_of o ≡ Some (UnknownMap name)
  IsStageFault o e = (given_fault_of o ≡ None) × IsPassFault o e

  -- the object of a file, prepared
  pub record IsPrepared (mode : ParseMode) (bytes : List ℕ) (o : Object) : Type 0 where
    pub sound : parse_fault_as mode bytes ≡ None
    pub stages : Stages steps lines (object_as mode bytes) o

  -- the first fault: the file's own, or that of a stage of its object
  abbrev pub IsFirstPrepareFault : ParseMode → List ℕ → PrepareError → Type 0
  IsFirstPrepareFault mode bytes (Parse e) = parse_fault_as mode bytes ≡ Some e
  IsFirstPrepareFault mode bytes e =
      (parse_fault_as mode bytes ≡ None) × IsStageFault (object_as mode bytes) e

-- an object as the bytes of a file are parsed in a reading
pub record IsParsed (mode : ParseMode) (bytes : List ℕ) (o : Object) : Type 0 where
  pub sound : parse_fault_as mode bytes ≡ None
  pub is : o ≡ object_as mode bytes

-- ---- out of memory

-- the one answer that no definition states, of a stage or between them
abbrev pub is_prepare_memory : PrepareError → Bool
is_prepare_memory (Parse e) = parsing.is_parse_memory e
is_prepare_memory (Types e) = types_relocation.is_memory_in_section e
is_prepare_memory (Maps e) = relocating.is_memory_at e
is_prepare_memory (Ksyms e) = resolving.is_ksyms_memory e
is_prepare_memory (Externs e) = relocating.is_memory_at e
is_prepare_memory (Calls e) = relocating.is_memory_at e
is_prepare_memory OutOfMemory = true
is_prepare_memory _ = false

-- it names no section and no function
abbrev pub NamesNothing : PrepareError → Type 0
NamesNothing (Types e) = e.section ≡ []
NamesNothing (Maps e) = e.function ≡ []
NamesNothing (Externs e) = e.function ≡ []
NamesNothing (Calls e) = e.function ≡ []
NamesNothing _ = ⊤

-- out of memory, or else a fault
abbrev pub RefusesPreparing : (PrepareError → Type 0) → PrepareError → Type 0
RefusesPreparing Fault e = MatchBool (is_prepare_memory e) (NamesNothing e) (Fault e)

-- ---- preparing has one result, where the bytes of the kernel's symbols are known: texts for
-- people aside, out of memory, and a line that can't be read

abbrev pub Answer : Type 0
Answer = Result Object PrepareError

-- a line that can't be read
abbrev pub is_access_error : KsymsError → Bool
is_access_error (KallsymsAccessError error) = true
is_access_error _ = false

abbrev pub is_access : PrepareError → Bool
is_access (Ksyms e) = is_access_error e
is_access _ = false

-- what may come in place of an answer: out of memory, and a line that can't be read
abbrev pub is_open : Answer → Bool
is_open (Ok o) = false
is_open (Err e) = is_prepare_memory e || is_access e

-- a refusal without the texts in it that are for people to read
abbrev pub prepare_error_without_texts : PrepareError → PrepareError
prepare_error_without_texts (Types e) = Types (without_texts_at e)
prepare_error_without_texts e = e

abbrev pub answer_without_texts : Answer → Answer
answer_without_texts (Ok o) = Ok o
answer_without_texts (Err e) = Err (prepare_error_without_texts e)

-- what the stages may answer of an object
abbrev pub MayStage : Chosen → Source → Object → Answer → Type 0
MayStage steps lines o (Ok after) = Stages steps lines o after
MayStage steps lines o (Err e) = RefusesPreparing (IsStageFault steps lines o) e

-- what preparing may answer of a file in a reading
abbrev pub MayPrepare : Chosen → Source → ParseMode → List ℕ → Answer → Type 0
MayPrepare steps lines mode bytes (Ok o) = IsPrepared steps lines mode bytes o
MayPrepare steps lines mode bytes (Err e) =
    RefusesPreparing (IsFirstPrepareFault steps lines mode bytes) e

-- any two of these answers are the same
abbrev pub IsOne : (Answer → Type 0) → Type 0
IsOne May =
    (r s : Answer)
    → May r
    → May s
    → is_open r ≡ false
    → is_open s ≡ false
    → answer_without_texts r ≡ answer_without_texts s

-- of an object, and of a file
abbrev pub OneStaging : Type 0
OneStaging =
    (steps : Chosen) (lines : List ℕ) (o : Object) → IsOne (MayStage steps (Reader (Some lines)) o)

abbrev pub OnePreparation : Type 0
OnePreparation =
    (steps : Chosen) (lines : List ℕ) (mode : ParseMode) (bytes : List ℕ)
    → IsOne (MayPrepare steps (Reader (Some lines)) mode bytes)
