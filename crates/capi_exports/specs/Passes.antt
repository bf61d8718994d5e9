-- What a pass over an object leaves of it, and why it refuses.
use Rattle.std.specs.Prelude.{◌≡◌, ◌⊎◌, ⊤, ℕ, List, [], Option, Some, None, Ok, Err, MatchBool}
use Rattle.std.specs.Prelude.{true, unwrap_or, Result, MatchResult}
use Rattle.capi_exports.specs.declared.held.Held.{Held}
use Rattle.capi_exports.specs.declared.held.Pass.TheVariants.{Calls}
use Rattle.capi_rows.specs.FaultNumbers.{slot_refusal}
use Rattle.capi_rows.specs.declared.refusal.Refusal.{Refusal}
use Rattle.ebpf_base.specs.Faults.{fault_of}
use Rattle.ebpf_btf.specs.TypeInfo.{TypeInfo}
use Rattle.ebpf_core_relo.specs.Records as relocating_types
use Rattle.ebpf_btf_load.specs.KernelTypes.{kernel_types_of, is_kernel_types_memory}
use Rattle.ebpf_btf_load.specs.declared.error.KernelTypesError.{KernelTypesError}
use Rattle.ebpf_ksyms.specs.Addresses as resolving
use Rattle.ebpf_ksyms.specs.Sources.{IsRefusedBy, IsResolvedBy, Text}
use Rattle.ebpf_model.specs.Memory as relocating
use Rattle.ebpf_object.specs.Headline.{Headline}
use Rattle.ebpf_object.specs.LinkedPrograms.{linkable_of, programs_in_order, ProgramsAreLinked}
use Rattle.ebpf_object.specs.Names.{has_function_in}
use Rattle.ebpf_object.specs.Objects.{object_of}
use Rattle.ebpf_object.specs.UnchangedFields.{KeepsOthers}
use Rattle.ebpf_object.specs.Prepared.{IsFirstPrepareFault, IsParsed, IsStageFault}
use Rattle.ebpf_object.specs.Prepared.{RefusesPreparing, Stages}
use Rattle.ebpf_object.specs.WrittenSlots.{relocated_slots, AreRelocatedToTypes, with_externs}
use Rattle.ebpf_object.specs.WrittenSlots.{externs_fault}
use Rattle.ebpf_object.specs.Stages.{Chosen}
use Rattle.ebpf_object.specs.declared.object.Object.{Object}
use Rattle.ebpf_parts.specs.declared.parse_mode.ParseMode.{ParseMode}
use Rattle.ebpf_parts.specs.declared.parse_mode.ParseMode.TheVariants.{Strict}
use Rattle.ebpf_reloc.specs.Linking.{IsFirstRefusal}
use Rattle.capi_rows.specs.Descriptors.{descriptors_in, have_names, NamesFirst}
use Rattle.capi_rows.specs.FileTypes.{types_in, types_if, CannotRead, CannotReadIf}
use Rattle.capi_rows.specs.Handles.{IsRefusal}
use Rattle.capi_rows.specs.Numbers.{ksyms_refusal, types_refusal, prepare_refusal}
use Rattle.capi_rows.specs.Numbers.{kernel_types_refusal}
use Rattle.capi_rows.specs.declared.reads.ebpf_descriptor.{ebpf_descriptor}

-- ---- types

-- relocated to a kernel whose types the bytes spell; all else of the object is as before
pub record HasRelocatedTypes (bytes : List ℕ) (old new : Object) : Type 0 where
  pub target : TypeInfo
  pub spelled : types_in bytes ≡ Ok target
  pub relocated : AreRelocatedToTypes old target new.functions
  pub others_stay : new ≡ record old { functions = new.functions }

-- a record can't be applied
pub record HasBadRecord (bytes : List ℕ) (o : Object) (r : Refusal) : Type 0 where
  pub target : TypeInfo
  pub spelled : types_in bytes ≡ Ok target
  pub refusal : IsRefusal
      (λ e.
      MatchBool (relocating_types.is_memory_in_section e) (e.section ≡ [])
      (relocated_slots o target ≡ Err (relocating_types.without_texts_at e)))
      types_refusal r

abbrev pub CannotRelocateTypes : List ℕ → Object → Refusal → Type 0
CannotRelocateTypes bytes o r = CannotRead bytes r ⊎ HasBadRecord bytes o r

-- ---- externs

-- looked up in the types that the bytes spell, if there are any, and in the text of a kernel's
-- symbols; all else is as before
pub record HasResolved (bytes symbols : List ℕ) (old new : Object) : Type 0 where
  pub kernel : Option TypeInfo
  pub spelled : types_if bytes ≡ Ok kernel
  pub resolved : IsResolvedBy symbols old.btf kernel old.externs new.externs
  pub others_stay : new ≡ record old { externs = new.externs }

-- an extern can't be found
pub record HasLostExtern (bytes symbols : List ℕ) (o : Object) (r : Refusal) : Type 0 where
  pub kernel : Option TypeInfo
  pub spelled : types_if bytes ≡ Ok kernel
  pub refusal : IsRefusal
      (λ e.
      MatchBool (resolving.is_ksyms_memory e) ⊤
      (IsRefusedBy symbols o.btf kernel o.externs e)) ksyms_refusal r

abbrev pub CannotResolve : List ℕ → List ℕ → Object → Refusal → Type 0
CannotResolve bytes symbols o r = CannotReadIf bytes r ⊎ HasLostExtern bytes symbols o r

-- an extern can't be written; out of memory names no function
abbrev pub CannotWriteExterns : Object → Refusal → Type 0
CannotWriteExterns o =
    IsRefusal
    (λ e.
    relocating.NamesNoneForMemory e
    × MatchBool (relocating.is_memory_at e) ⊤ (externs_fault o ≡ Some e)) (slot_refusal 500)

-- written into the slots that refer to them, each of which can take its extern
pub record HasWrittenExterns (old new : Object) : Type 0 where
  pub sound : externs_fault old ≡ None
  pub is : new ≡ with_externs old

-- ---- calls

-- each program linked with the functions that it reaches; all else is as before
pub record HasLinked (old new : Object) : Type 0 where
  pub linked : ProgramsAreLinked (linkable_of old (has_function_in old.functions))
      (programs_in_order old.programs) new.functions
  pub others_stay : new ≡ record old { functions = new.functions }

-- a program can't be linked; out of memory names none
abbrev pub CannotLink : Object → Refusal → Type 0
CannotLink o =
    IsRefusal
    (λ e.
    relocating.NamesNoneForMemory e
    × MatchBool (relocating.is_memory_at e) ⊤
    (IsFirstRefusal (linkable_of o (has_function_in o.functions))
    (programs_in_order o.programs) e)) (slot_refusal 600)

-- ---- a file, and an object that a handle holds, prepared in one call: types if there are any,
-- descriptors, externs, calls

-- what a caller gives beside a file or a handle
pub record PreparationInputs : Type 0 where
  pub types : List ℕ
  pub rows : List ebpf_descriptor
  pub text : List ℕ
  pub symbols : List ℕ

abbrev pub inputs_of : List ℕ → List ebpf_descriptor → List ℕ → List ℕ → PreparationInputs
inputs_of types rows text symbols =
    record { types = types; rows = rows; text = text; symbols = symbols }

-- all passes, types where a kernel's are known, and nothing missing
abbrev pub all_passes : PreparationInputs → Option TypeInfo → Chosen
all_passes inputs kernel = record {
  target = kernel;
  descriptors = Some (descriptors_in inputs.text inputs.rows);
  kernel = Some kernel;
  externs = true;
  calls = true;
  complete = true;
}

-- the object of the file after all passes
pub record HasPrepared (file : List ℕ) (inputs : PreparationInputs) (o : Object) : Type 0 where
  pub kernel : Option TypeInfo
  pub spelled : types_if inputs.types ≡ Ok kernel
  pub named : have_names inputs.text inputs.rows ≡ true
  pub headline : Headline (all_passes inputs kernel) (Text inputs.symbols) Strict file o
  pub others_stay : KeepsOthers (object_of file) o

-- a stage has the first fault
pub record HasFault (file : List ℕ) (inputs : PreparationInputs) (r : Refusal) : Type 0 where
  pub kernel : Option TypeInfo
  pub spelled : types_if inputs.types ≡ Ok kernel
  pub refusal : IsRefusal
      (RefusesPreparing
      (IsFirstPrepareFault (all_passes inputs kernel) (Text inputs.symbols) Strict file))
      prepare_refusal r

-- the names are looked at first, then the types are read, then come the stages
abbrev pub CannotPrepare : List ℕ → PreparationInputs → Refusal → Type 0
CannotPrepare file inputs =
    NamesFirst inputs.rows inputs.text (λ r. CannotReadIf inputs.types r ⊎ HasFault file inputs r)

-- it is held, and no pass is left
abbrev pub IsPreparedAs : List ℕ → PreparationInputs → Held → Type 0
IsPreparedAs file inputs held = HasPrepared file inputs held.object × (held.last ≡ Some Calls)

abbrev pub IsPreparedIn : List ℕ → PreparationInputs → Option Held → Type 0
IsPreparedIn file inputs None = ⊥
IsPreparedIn file inputs (Some held) = IsPreparedAs file inputs held

-- ---- an object that a handle holds

-- the object after all passes over what it was; where it was as parsed, it is the prepared object
-- of that file
pub record HasPreparedHeld (inputs : PreparationInputs) (old new : Object) : Type 0 where
  pub kernel : Option TypeInfo
  pub spelled : types_if inputs.types ≡ Ok kernel
  pub named : have_names inputs.text inputs.rows ≡ true
  pub stages : Stages (all_passes inputs kernel) (Text inputs.symbols) old new
  pub headline : (mode : ParseMode) (file : List ℕ)
      → IsParsed mode file old
      → Headline (all_passes inputs kernel) (Text inputs.symbols) mode file new
  pub others_stay : KeepsOthers old new

-- a stage has the first fault
pub record HasStageFault (inputs : PreparationInputs) (o : Object) (r : Refusal) : Type 0 where
  pub kernel : Option TypeInfo
  pub spelled : types_if inputs.types ≡ Ok kernel
  pub refusal : IsRefusal
      (RefusesPreparing (IsStageFault (all_passes inputs kernel) (Text inputs.symbols) o))
      prepare_refusal r

-- the names are looked at first, then the types are read, then come the stages
abbrev pub CannotPrepareHeld : PreparationInputs → Object → Refusal → Type 0
CannotPrepareHeld inputs o =
    NamesFirst inputs.rows inputs.text (λ r. CannotReadIf inputs.types r ⊎ HasStageFault inputs o r)

-- ---- the types of a file for the kernel

abbrev pub bytes_or_none : Result (Option (List ℕ)) KernelTypesError
    → Result (List ℕ) KernelTypesError
bytes_or_none (Ok types) = Ok (unwrap_or types [])
bytes_or_none (Err e) = Err e

-- the bytes of the types: none where the file has no .BTF
abbrev pub types_for_kernel : List ℕ → Result (List ℕ) KernelTypesError
types_for_kernel file = bytes_or_none (kernel_types_of file)

-- there are none, or memory was refused
abbrev pub CannotMakeTypes : List ℕ → Refusal → Type 0
CannotMakeTypes file =
    IsRefusal
    (λ e. MatchBool (is_kernel_types_memory e) ⊤ (fault_of (kernel_types_of file) ≡ Some e))
    (kernel_types_refusal file)

-- what is found
abbrev pub AreTypesForKernel : List ℕ → Result (List ℕ) Refusal → Type 0
AreTypesForKernel file found =
    MatchResult found (λ bytes. types_for_kernel file ≡ Ok bytes) (CannotMakeTypes file)
