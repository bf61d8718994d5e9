-- What calls find of the link map of a program, and why they refuse.
use Rattle.std.specs.Prelude.{◌≡◌, ◌⊎◌, ⊤, ℕ, List, Some, None, MatchBool, Ok}
use Rattle.capi_rows.specs.Answers.{Listed}
use Rattle.capi_rows.specs.Listings.{value_by_bytes}
use Rattle.capi_rows.specs.FaultNumbers.{slot_refusal}
use Rattle.capi_rows.specs.Refusals.{plain}
use Rattle.capi_rows.specs.declared.codes.TheConstants.{NO_PROGRAM, BAD_NAME}
use Rattle.capi_rows.specs.declared.refusal.Refusal.{Refusal}
use Rattle.ebpf_btf.specs.TypeInfo.{TypeInfo}
use Rattle.ebpf_load_info.specs.AttachTargets.{attach_target}
use Rattle.ebpf_load_info.specs.declared.attach.AttachTarget.{AttachTarget}
use Rattle.ebpf_load_info.specs.declared.attach.AttachTarget.TheVariants.{NotWanted, Unnamed, Found}
use Rattle.ebpf_load_info.specs.declared.attach.AttachTarget.TheVariants.{NotFound}
use Rattle.ebpf_model.specs.Memory.{NamesNoneForMemory, is_memory_at}
use Rattle.ebpf_model.specs.declared.error.EbpfRelocationError.{EbpfRelocationError}
use Rattle.ebpf_model.specs.declared.function.Program.{Program}
use Rattle.ebpf_object.specs.LinkedPrograms.{linkable_of, program_value}
use Rattle.ebpf_object.specs.Names.{has_function_in}
use Rattle.ebpf_object.specs.declared.object.Object.{Object}
use Rattle.ebpf_reloc.specs.Linking.{IsLinkMapAt, key_of, IsProgramRefusal}
use Rattle.ebpf_reloc.specs.SlotTargets.{LinkableValue}
use Rattle.ebpf_reloc.specs.declared.link_map.LinkMap.{LinkMap}
use Rattle.capi_rows.specs.Descriptors.{text_of}
use Rattle.capi_rows.specs.FileTypes.{types_in, CannotRead}
use Rattle.capi_rows.specs.Handles.{IsRefusal}
use Rattle.capi_rows.specs.Records.{copy_list, reference_rows}
use Rattle.capi_rows.specs.declared.record_rows.ebpf_code_copy.{ebpf_code_copy}
use Rattle.capi_rows.specs.declared.record_rows.ebpf_code_reference.{ebpf_code_reference}

-- what linking reads of an object, by the sections that its own functions stand in
abbrev pub own_parts : Object → LinkableValue
own_parts o = linkable_of o (has_function_in o.functions)

-- ---- the map of the program that some bytes name

pub record IsLinkMapOf (name : List ℕ) (o : Object) (m : LinkMap) : Type 0 where
  pub program : Program
  pub named : value_by_bytes o.programs name ≡ Some program
  pub mapped : IsLinkMapAt (own_parts o) (key_of (program_value name program)) m

-- its copies as rows
pub record IsCopyList (name : List ℕ) (o : Object) (listed : Listed ebpf_code_copy) : Type 0 where
  pub linked : LinkMap
  pub of : IsLinkMapOf name o linked
  pub is : listed ≡ copy_list linked.copies

-- its references as rows
pub record IsReferenceList (name : List ℕ) (o : Object) (rows : List ebpf_code_reference)
    : Type 0 where
  pub linked : LinkMap
  pub of : IsLinkMapOf name o linked
  pub is : rows ≡ reference_rows linked.references

-- ---- why there is none

-- no program has the name
pub record LacksProgram (name : List ℕ) (o : Object) (r : Refusal) : Type 0 where
  pub absent : value_by_bytes o.programs name ≡ None
  pub is : r ≡ plain NO_PROGRAM

-- a refusal of linking that stands, or one that tells of lack of memory and names no function
abbrev pub IsUnlinkable : List ℕ → Object → Program → EbpfRelocationError → Type 0
IsUnlinkable name o program e =
    NamesNoneForMemory e
    × MatchBool (is_memory_at e) ⊤
    (IsProgramRefusal (own_parts o) (program_value name program) e)

-- the program of the name can't be linked
pub record HasUnlinkable (name : List ℕ) (o : Object) (r : Refusal) : Type 0 where
  pub program : Program
  pub named : value_by_bytes o.programs name ≡ Some program
  pub refusal : IsRefusal (IsUnlinkable name o program) (slot_refusal 600) r

abbrev pub CannotMap : List ℕ → Object → Refusal → Type 0
CannotMap name o r = LacksProgram name o r ⊎ HasUnlinkable name o r

-- ---- what C is told of the type that the programs of a section are attached to

abbrev pub target_number : AttachTarget → ℕ
target_number NotWanted = 0
target_number Unnamed = 1
target_number (Found id) = 2
target_number (NotFound name) = 3

-- the id of the type, 0 where none is found
abbrev pub target_type_id : AttachTarget → ℕ
target_type_id (Found id) = id
target_type_id _ = 0

-- what the programs of a section of a name are attached to, among the types that the bytes spell
pub record IsTarget (name bytes : List ℕ) (target : AttachTarget) : Type 0 where
  pub section : List ℕ
  pub read : text_of name ≡ Some section
  pub types : TypeInfo
  pub spelled : types_in bytes ≡ Ok types
  pub is : target ≡ attach_target section types

-- the types of a text can't be read, or memory was refused
pub record HasNoTypes (name bytes : List ℕ) (r : Refusal) : Type 0 where
  pub section : List ℕ
  pub read : text_of name ≡ Some section
  pub refusal : CannotRead bytes r

-- a name that is no text is refused first
abbrev pub CannotFindTarget : List ℕ → List ℕ → Refusal → Type 0
CannotFindTarget name bytes r =
    ((text_of name ≡ None) × (r ≡ plain BAD_NAME)) ⊎ HasNoTypes name bytes r

-- the number of the target and the id of its type
pub record TellsTarget (name bytes : List ℕ) (answer id : ℕ) : Type 0 where
  pub target : AttachTarget
  pub found : IsTarget name bytes target
  pub answer_is : answer ≡ target_number target
  pub id_is : id ≡ target_type_id target

-- a call answers the number of the refusal, and leaves both as they were
pub record TellsNone (name bytes : List ℕ) (number answer answer_left id id_left : ℕ) : Type 0 where
  pub refusal : Refusal
  pub why : CannotFindTarget name bytes refusal
  pub number_is : number ≡ refusal.number
  pub answer_stays : answer_left ≡ answer
  pub id_stays : id_left ≡ id
