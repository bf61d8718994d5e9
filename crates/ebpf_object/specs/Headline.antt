-- What is promised of a finished object:
--
-- After `parse` and then the passes types, maps, externs, calls, each at most once and with Ok,
-- every program is its function followed by every function its references reach, each once; under
-- every list of branch decisions it visits the separate functions' slots in the same order; and
-- every slot that one type relocation alone writes carries its kind's value for the same named path
-- in the target (`Carries`, whose outcome is a `SamePathValue`).
--
-- The linked program also computes what its functions compute. Take any semantics of instructions:
-- a state of any kind, its change by each instruction, and the outcome of each branch in a state. A
-- reference means the function that it names. Then after every number of steps the linked program
-- and the separate functions are in the same state, at corresponding slots (`IsLinked.behaviour`,
-- and for states of any type the law `linked_behave_alike` of ebpf_reloc).
--
-- A program with an exception callback (`complete_programs` of ebpf_exceptions, after lenient
-- parsing) refers to it behind its last slot. So the callback and what it reaches are among those
-- functions, behind all that the slots reach.
--
-- The program's own function stands once more where a reference names it. Visits and states agree
-- where each reference of the program and of the functions that it reaches stands on a pseudo call
-- or on a wide load, as long as the separate run hasn't left its function, and neither machine
-- enters a function that a helper calls back. A value that doesn't exist is a poisoned slot. No
-- public field is written by hand between the calls.
use Rattle.std.specs.Prelude.{◌≡◌, ℕ, ◌+◌, List, ◌∷◌, Option, Some, None, option_map, Ok}
use Rattle.std.specs.Prelude.{if◌then◌else◌, slice_get, MatchBool}
use Rattle.std.specs.FinMap.{get}
use Rattle.ebpf_btf_ext.specs.ExtReading.{ExtInfo}
use Rattle.ebpf_btf.specs.TypeInfo.{TypeInfo}
use Rattle.ebpf_btf_ext.specs.declared.relocation.Relocation.{Relocation}
use Rattle.ebpf_core_relo.specs.RecordOutcomes.{records_with_sections, Touches, WritesAlone}
use Rattle.ebpf_core_relo.specs.RecordOutcomes.{Carries}
use Rattle.ebpf_core_relo.specs.Records.{RelocationInputs, Written, own_slots}
use Rattle.ebpf_core_relo.specs.Records.{relocation_inputs_between, slots_written}
use Rattle.ebpf_ksyms.specs.Sources.{Source}
use Rattle.ebpf_linker.specs.Functions.{Functions, Nothing, BeginsAt}
use Rattle.ebpf_object.specs.Chain.{Passes, Chain}
use Rattle.ebpf_object.specs.LinkedPrograms.{linkable_of, programs_in_order, is_program_key}
use Rattle.ebpf_object.specs.Objects.{object_as}
use Rattle.ebpf_object.specs.Prepared.{IsPrepared}
use Rattle.ebpf_object.specs.Stages.{own_maps, Chosen}
use Rattle.ebpf_object.specs.Names.{has_function_in}
use Rattle.ebpf_object.specs.declared.object.Object.{Object}
use Rattle.ebpf_model.specs.declared.function.Program.{Program}
use Rattle.ebpf_parts.specs.declared.insn.bpf_insn.{bpf_insn}
use Rattle.ebpf_parts.specs.declared.parse_mode.ParseMode.{ParseMode}
use Rattle.ebpf_reloc.specs.Linking.{IsLinked}
use Rattle.ebpf_model.specs.Symbols.{TextSections, FunctionKey}
use Rattle.ebpf_reloc.specs.SlotTargets.{LinkableValue}
use Rattle.ebpf_reloc.specs.References.{functions_of}
use Rattle.ebpf_model.specs.declared.error.RelocationError.{RelocationError}
use Rattle.ebpf_model.specs.declared.function.Function.{Function}

-- ---- programs

-- what linking reads of an object at the start of linking, where the sections of code are
-- those of its functions
abbrev pub linkable : Object → LinkableValue
linkable o = linkable_of o (has_function_in o.functions)

-- the separate functions at the start of linking, and what their slots refer to
abbrev pub separate_functions : LinkableValue → Functions FunctionKey RelocationError
separate_functions parts = functions_of parts

abbrev pub key_of_program : Program → FunctionKey
key_of_program program = (program.section_index, program.address)

-- Each program has become its linked function: its own function followed by every function that its
-- references reach, each once, in the order of their key paths; where each reference stands on a
-- pseudo call or a wide load, it visits the slots of the separate functions and is in their state.
abbrev pub ProgramsAreWhole : LinkableValue → Object → Type 0
ProgramsAreWhole parts o =
    (name : List ℕ) (program : Program) → get o.programs name ≡ Some program
    → (linked : Function)
    × (get o.functions (key_of_program program) ≡ Some linked)
    × IsLinked parts (key_of_program program) linked

-- ---- types

-- slot i of the function at a key
abbrev pub slot_in : Object → FunctionKey → ℕ → Option bpf_insn
slot_in o key i = slice_get (own_slots (get o.functions key)) i

-- what records read of a parsed object
abbrev pub record_inputs_of : Object → TypeInfo → TypeInfo → RelocationInputs
record_inputs_of parsed local target =
    relocation_inputs_between local target parsed.functions parsed.section_infos

-- The slots that a record touches: no other record touches them, and neither descriptors nor
-- externs change them.
pub record IsAlone (inputs : RelocationInputs) (records : List (ℕ × Relocation))
    (relocated unlinked : Object) (n : ℕ) (record_at : ℕ × Relocation)
    : Type 0 where
  pub among_records : WritesAlone inputs records n record_at
  pub unwritten : (key : FunctionKey) (i : ℕ)
      → Touches inputs record_at key i
      → slot_in unlinked key i ≡ slot_in relocated key i

-- Linking leaves a slot as it is, since it refers to no function.
abbrev pub LinkingKeeps : TextSections → Object → FunctionKey → ℕ → Type 0
LinkingKeeps text_sections unlinked key i =
    (separate_functions (linkable_of unlinked text_sections)).reference key i ≡ Nothing

-- Slot i of the function at a key stands, once its program is linked, in the linked function at
-- another key: that is the program's own function or has a copy of it, which begins at a base.
pub record IsCopiedTo (text_sections : TextSections) (unlinked o : Object) (key : FunctionKey)
    (i : ℕ) (at : FunctionKey) (place : ℕ)
    : Type 0 where
  pub linked : Function
  pub there : get o.functions at ≡ Some linked
  pub is : IsLinked (linkable_of unlinked text_sections) at linked
  pub base : ℕ
  pub begins : BeginsAt (separate_functions (linkable_of unlinked text_sections)) (at ∷ is.order)
      key base
  pub here : place ≡ base + i
  pub kept : LinkingKeeps text_sections unlinked key i

-- Where slot i of the function at a key stands in the finished object, unchanged by linking: in
-- each program's function, once programs are linked, and in its own function where that is no
-- program's or no program is linked.
abbrev pub StandsAt : Option TextSections → Object → Object → FunctionKey → ℕ → FunctionKey → ℕ
    → Type 0
StandsAt None unlinked o key i at place = (at ≡ key) × (place ≡ i)
StandsAt (Some text_sections) unlinked o key i at place =
    MatchBool (is_program_key (programs_in_order unlinked.programs) at)
    (IsCopiedTo text_sections unlinked o key i at place)
    ((at ≡ key) × (place ≡ i))

-- The slots that a record touches carry its outcome in the finished object, wherever they stand in
-- it. By `carries.same_path`, it is the value of the same named path in the target.
pub record IsCarried (inputs : RelocationInputs) (left : Written) (calls : Option TextSections)
    (unlinked o : Object) (record_at : ℕ × Relocation)
    : Type 0 where
  pub carries : Carries inputs left record_at
  pub finished : (i : ℕ) (carrying : bpf_insn)
      → Touches inputs record_at carries.key i
      → slice_get carries.slots i ≡ Some carrying
      → (at : FunctionKey) (place : ℕ)
      → StandsAt calls unlinked o carries.key i at place
      → slot_in o at place ≡ Some carrying

-- each record that writes alone is carried
pub record RecordsAreCarried (inputs : RelocationInputs) (parts : List (ℕ × List Relocation))
    (calls : Option TextSections) (relocated unlinked o : Object)
    : Type 0 where
  pub left : Written
  pub written : slots_written inputs parts ≡ Ok left
  pub each : (n : ℕ) (record_at : ℕ × Relocation)
      → slice_get (records_with_sections inputs parts) n ≡ Some record_at
      → IsAlone inputs (records_with_sections inputs parts) relocated unlinked n record_at
      → IsCarried inputs left calls unlinked o record_at

-- ---- a finished object

-- what is said of programs holds where they are linked, what is said of records where functions are
-- relocated to types
pub record IsFinished (passes : Passes) (parsed o : Object) : Type 0 where
  pub chain : Chain passes parsed o
  pub programs : (text_sections : TextSections)
      → passes.calls ≡ Some text_sections
      → ProgramsAreWhole (linkable_of chain.unlinked text_sections) o
  pub types : (target local : TypeInfo) (ext : ExtInfo)
      → passes.target ≡ Some target
      → parsed.btf ≡ Some local
      → parsed.btf_ext ≡ Some ext
      → RecordsAreCarried (record_inputs_of parsed local target) ext.relocations passes.calls
      chain.relocated chain.unlinked o

-- of any passes, in their order, over any object
abbrev pub PassesFinish : Type 0
PassesFinish =
    (passes : Passes) (parsed o : Object) → Chain passes parsed o → IsFinished passes parsed o

-- ---- a prepared file

module _ {steps : Chosen} {lines : Source} {mode : ParseMode} {bytes : List ℕ} {o : Object} where
  -- the passes that were made: the sections of code are those of the functions
  abbrev pub passes_of : IsPrepared steps lines mode bytes o → Passes
  passes_of p = record {
    target = steps.target;
    maps =
        option_map
        (λ descriptors. (
          has_function_in p.stages.relocated.functions,
          own_maps p.stages.relocated.maps
              descriptors,
        )) steps.descriptors;
    externs = steps.externs;
    calls = if steps.calls then Some (has_function_in p.stages.unlinked.functions) else None;
  }

-- a file, read in a reading and prepared, is finished
pub record Headline (steps : Chosen) (lines : Source) (mode : ParseMode) (bytes : List ℕ)
    (o : Object)
    : Type 0 where
  pub prepared : IsPrepared steps lines mode bytes o
  pub finished : IsFinished (passes_of prepared) (object_as mode bytes) o
