-- What the calls do that are given a handle of a kernel's types. Each is the call over the bytes
-- that spell them (`TypesAreTheirBytes`).
use Rattle.std.specs.Prelude.{◌≡◌, ◌⊎◌, ⊤, ℕ, List, [], Option, Some, None, Ok, Err, MatchBool}
use Rattle.std.specs.Prelude.{true}
use Rattle.ebpf_btf.specs.TypeInfo.{TypeInfo}
use Rattle.ebpf_core_relo.specs.Records as relocating_types
use Rattle.ebpf_ksyms.specs.Addresses as resolving
use Rattle.ebpf_ksyms.specs.Sources.{IsRefusedBy, IsResolvedBy, Text}
use Rattle.ebpf_load_info.specs.AttachTargets.{attach_target}
use Rattle.ebpf_load_info.specs.declared.attach.AttachTarget.{AttachTarget}
use Rattle.ebpf_object.specs.Headline.{Headline}
use Rattle.ebpf_object.specs.Objects.{object_of}
use Rattle.ebpf_object.specs.Prepared.{IsFirstPrepareFault, IsParsed, IsStageFault}
use Rattle.ebpf_object.specs.Prepared.{RefusesPreparing, Stages}
use Rattle.ebpf_object.specs.UnchangedFields.{KeepsOthers}
use Rattle.ebpf_object.specs.WrittenSlots.{relocated_slots, AreRelocatedToTypes}
use Rattle.ebpf_object.specs.declared.object.Object.{Object}
use Rattle.ebpf_parts.specs.declared.parse_mode.ParseMode.{ParseMode}
use Rattle.ebpf_parts.specs.declared.parse_mode.ParseMode.TheVariants.{Strict}
use Rattle.capi_rows.specs.Answers.{Listed}
use Rattle.capi_rows.specs.Descriptors.{have_names, text_of, NamesFirst}
use Rattle.capi_rows.specs.FileTypes.{types_in}
use Rattle.capi_rows.specs.Handles.{IsRefusal}
use Rattle.capi_rows.specs.Numbers.{ksyms_refusal, types_refusal, prepare_refusal}
use Rattle.capi_rows.specs.Records.{outcome_list, IsOutcomeList}
use Rattle.capi_rows.specs.Refusals.{plain}
use Rattle.capi_rows.specs.declared.codes.TheConstants.{BAD_NAME, MEMORY}
use Rattle.capi_rows.specs.declared.reads.ebpf_descriptor.{ebpf_descriptor}
use Rattle.capi_rows.specs.declared.record_rows.ebpf_record_outcome.{ebpf_record_outcome}
use Rattle.capi_rows.specs.declared.refusal.Refusal.{Refusal}
use Rattle.capi_exports.specs.Answers.{target_number, target_type_id, IsTarget, CannotFindTarget}
use Rattle.capi_exports.specs.KernelHandles.{WhyOfTypes}
use Rattle.capi_exports.specs.Passes.{PreparationInputs, all_passes, CannotPrepare}
use Rattle.capi_exports.specs.Passes.{CannotPrepareHeld, CannotRelocateTypes, CannotResolve}
use Rattle.capi_exports.specs.Passes.{HasPrepared, HasPreparedHeld, HasRelocatedTypes, HasResolved}
use Rattle.capi_exports.specs.declared.held.Held.{Held}
use Rattle.capi_exports.specs.declared.held.Pass.TheVariants.{Calls}
use Rattle.capi_exports.specs.declared.kernel_types.Kernel.{Kernel}

-- ---- types

-- relocated to a kernel's types; all else of the object is as before
pub record HasRelocatedTo (target : TypeInfo) (old new : Object) : Type 0 where
  pub relocated : AreRelocatedToTypes old target new.functions
  pub others_stay : new ≡ record old { functions = new.functions }

-- a record can't be applied
abbrev pub CannotRelocateTo : TypeInfo → Object → Refusal → Type 0
CannotRelocateTo target o =
    IsRefusal
    (λ e.
    MatchBool (relocating_types.is_memory_in_section e) (e.section ≡ [])
    (relocated_slots o target ≡ Err (relocating_types.without_texts_at e))) types_refusal

-- ---- externs

-- looked up in a kernel's types, and in the text of its symbols; all else is as before
pub record HasResolvedIn (kernel : TypeInfo) (symbols : List ℕ) (old new : Object) : Type 0 where
  pub resolved : IsResolvedBy symbols old.btf (Some kernel) old.externs new.externs
  pub others_stay : new ≡ record old { externs = new.externs }

-- an extern can't be found
abbrev pub CannotResolveIn : TypeInfo → List ℕ → Object → Refusal → Type 0
CannotResolveIn kernel symbols o =
    IsRefusal
    (λ e.
    MatchBool (resolving.is_ksyms_memory e) ⊤ (IsRefusedBy symbols o.btf (Some kernel) o.externs e))
    ksyms_refusal

-- ---- all passes

-- what is given beside a handle of types
abbrev pub given_inputs : List ebpf_descriptor → List ℕ → List ℕ → PreparationInputs
given_inputs rows text symbols =
    record { types = []; rows = rows; text = text; symbols = symbols }

-- the object of the file after all passes
pub record HasPreparedTo (kernel : TypeInfo) (file : List ℕ) (inputs : PreparationInputs)
    (o : Object)
    : Type 0 where
  pub named : have_names inputs.text inputs.rows ≡ true
  pub headline : Headline (all_passes inputs (Some kernel)) (Text inputs.symbols) Strict file o
  pub others_stay : KeepsOthers (object_of file) o

-- the names are looked at first, then come the stages
abbrev pub CannotPrepareTo : TypeInfo → List ℕ → PreparationInputs → Refusal → Type 0
CannotPrepareTo kernel file inputs =
    NamesFirst inputs.rows inputs.text
    (IsRefusal
    (RefusesPreparing
    (IsFirstPrepareFault (all_passes inputs (Some kernel)) (Text inputs.symbols) Strict file))
    prepare_refusal)

-- it is held, and no pass is left
abbrev pub IsPreparedTo : TypeInfo → List ℕ → PreparationInputs → Held → Type 0
IsPreparedTo kernel file inputs held =
    HasPreparedTo kernel file inputs held.object × (held.last ≡ Some Calls)

abbrev pub IsPreparedToIn : List ℕ → PreparationInputs → Option Held → TypeInfo → Type 0
IsPreparedToIn file inputs None kernel = ⊥
IsPreparedToIn file inputs (Some held) kernel = IsPreparedTo kernel file inputs held

-- the object after all passes over what it was
pub record HasPreparedHeldTo (kernel : TypeInfo) (inputs : PreparationInputs) (old new : Object)
    : Type 0 where
  pub named : have_names inputs.text inputs.rows ≡ true
  pub stages : Stages (all_passes inputs (Some kernel)) (Text inputs.symbols) old new
  pub headline : (mode : ParseMode) (file : List ℕ)
      → IsParsed mode file old
      → Headline (all_passes inputs (Some kernel)) (Text inputs.symbols) mode file new
  pub others_stay : KeepsOthers old new

-- the names are looked at first, then come the stages
abbrev pub CannotPrepareHeldTo : TypeInfo → PreparationInputs → Object → Refusal → Type 0
CannotPrepareHeldTo kernel inputs o =
    NamesFirst inputs.rows inputs.text
    (IsRefusal
    (RefusesPreparing
    (IsStageFault (all_passes inputs (Some kernel)) (Text inputs.symbols) o)) prepare_refusal)

-- ---- outcomes of records

abbrev pub IsOutcomeListOver : TypeInfo → Object → Listed ebpf_record_outcome → Type 0
IsOutcomeListOver kernel o listed = listed ≡ outcome_list o kernel

-- out of memory, whatever the object is
abbrev pub HasNoMemory : Object → Refusal → Type 0
HasNoMemory o r = r ≡ plain MEMORY

-- ---- attach targets

-- what the programs of a section of a name are attached to, among a kernel's types
pub record IsTargetIn (name : List ℕ) (kernel : TypeInfo) (target : AttachTarget) : Type 0 where
  pub section : List ℕ
  pub read : text_of name ≡ Some section
  pub is : target ≡ attach_target section kernel

-- out of memory for a name that is a text
pub record HasNoMemoryFor (name : List ℕ) (r : Refusal) : Type 0 where
  pub section : List ℕ
  pub read : text_of name ≡ Some section
  pub is : r ≡ plain MEMORY

-- a name that is no text is refused first
abbrev pub CannotFindTargetIn : List ℕ → TypeInfo → Refusal → Type 0
CannotFindTargetIn name kernel r =
    ((text_of name ≡ None) × (r ≡ plain BAD_NAME)) ⊎ HasNoMemoryFor name r

-- the number of the target and the id of its type
pub record TellsTargetIn (name : List ℕ) (answer id : ℕ) (kernel : TypeInfo) : Type 0 where
  pub target : AttachTarget
  pub found : IsTargetIn name kernel target
  pub answer_is : answer ≡ target_number target
  pub id_is : id ≡ target_type_id target

-- a call answers the number of the refusal, and leaves both as they were
pub record TellsNoneIn (name : List ℕ) (kernel : Option Kernel)
    (number answer answer_left id id_left : ℕ)
    : Type 0 where
  pub refusal : Refusal
  pub why : WhyOfTypes (CannotFindTargetIn name) kernel refusal
  pub number_is : number ≡ refusal.number
  pub answer_stays : answer_left ≡ answer
  pub id_stays : id_left ≡ id

-- ---- the calls over the types are those over the bytes

-- what the calls over types do is what those over bytes do that spell them
pub record IsOverBytes (bytes : List ℕ) (kernel : TypeInfo) : Type 0 where
  pub relocates : (old new : Object) → HasRelocatedTo kernel old new
      → HasRelocatedTypes bytes old new
  pub resolves : (symbols : List ℕ) (old new : Object) → HasResolvedIn kernel symbols old new
      → HasResolved bytes symbols old new
  pub prepares : (file : List ℕ) (inputs : PreparationInputs) (o : Object)
      → HasPreparedTo kernel file inputs o
      → HasPrepared file (record inputs { types = bytes }) o
  pub prepares_held : (inputs : PreparationInputs) (old new : Object)
      → HasPreparedHeldTo kernel inputs old new
      → HasPreparedHeld (record inputs { types = bytes }) old new
  pub lists : (o : Object) (listed : Listed ebpf_record_outcome)
      → IsOutcomeListOver kernel o listed
      → IsOutcomeList bytes o listed
  pub finds : (name : List ℕ) (target : AttachTarget) → IsTargetIn name kernel target
      → IsTarget name bytes target

-- where they refuse, those over bytes may refuse so
pub record RefusesAsBytes (bytes : List ℕ) (kernel : TypeInfo) (r : Refusal) : Type 0 where
  pub relocating : (o : Object) → CannotRelocateTo kernel o r → CannotRelocateTypes bytes o r
  pub resolving : (symbols : List ℕ) (o : Object) → CannotResolveIn kernel symbols o r
      → CannotResolve bytes symbols o r
  pub preparing : (file : List ℕ) (inputs : PreparationInputs)
      → CannotPrepareTo kernel file inputs r
      → CannotPrepare file (record inputs { types = bytes }) r
  pub preparing_held : (inputs : PreparationInputs) (o : Object)
      → CannotPrepareHeldTo kernel inputs o r
      → CannotPrepareHeld (record inputs { types = bytes }) o r
  pub finding : (name : List ℕ) → CannotFindTargetIn name kernel r → CannotFindTarget name bytes r

abbrev pub TypesAreTheirBytes : Type 0
TypesAreTheirBytes =
    (bytes : List ℕ) (kernel : TypeInfo)
    → types_in bytes ≡ Ok kernel
    → IsOverBytes bytes kernel × ((r : Refusal) → RefusesAsBytes bytes kernel r)
