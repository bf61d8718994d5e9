-- The value of a CO-RE relocation, in its reader's words.
--
-- A relocation names a field, an enumerator or a type of the object's own types. Its value is what
-- its kind asks of the same names in a target type of the same kind and name: of a field its byte
-- offset, size, existence, sign or shifts, of an enumerator its value or existence, of a type its
-- id, existence or size. Where no such target type has them, a question of existence has the value
-- 0, and every other question has none. Where several have them, all have one bit offset and one
-- value: else the relocation is refused, and this relation holds of no outcome.
--
-- An example. The object was compiled with
--
--     struct task { int pid; struct { int uid; } cred; };
--
-- and its relocation, of kind FieldByteOffset on `struct task`, has the access string "0:1:0": the
-- first `struct task`, member 1, member 0. By names: element 0, `cred`, `uid`. The kernel has
--
--     struct task { long state; union { int flags; struct { short gid; int uid; } cred; }; };
--
-- The target `struct task` is a candidate: a STRUCT of the same name. `cred` is the first member of
-- that name, found through the anonymous union at byte 8, and `uid` stands 4 bytes further. So the
-- value is 12, whatever the offset in the object was (4). Were the kernel's field called `euid`, no
-- candidate would have it, and there would be no value: the instruction is poisoned. A relocation
-- of kind FieldExists would then have the value 0. `proofs/Examples.antt` computes all three.
--
-- `SamePathValue local target r outcome` holds of one outcome at most, and exactly where
-- `outcome_of local target r` is `Ok outcome` (`laws::one_same_path_value`).
use Rattle.std.specs.Prelude.{◌≡◌, ◌≢◌, ℕ, ◌<◌, ◌||◌, Bool, true, false, List, [], Option, Some}
use Rattle.std.specs.Prelude.{None, Ok, Err, is_ok, slice_get, unwrap_or}
use Rattle.ebpf_btf.specs.EssentialNames.{essential_name}
use Rattle.ebpf_btf.specs.Steps.{resolved_type, type_at}
use Rattle.ebpf_btf.specs.Strings.{type_name}
use Rattle.ebpf_btf.specs.TypeInfo.{TypeInfo}
use Rattle.ebpf_btf.specs.Types.{is_kind}
use Rattle.ebpf_btf.specs.Variants.{variants_of}
use Rattle.ebpf_btf.specs.declared.types.BtfType.{BtfType}
use Rattle.ebpf_btf_ext.specs.declared.relocation.Relocation.{Relocation}
use Rattle.ebpf_btf_ext.specs.declared.relocation.RelocationKind.{RelocationKind}
use Rattle.ebpf_btf_ext.specs.declared.relocation.RelocationKind.TheVariants.{TypeIdLocal}
use Rattle.ebpf_core_candidates.specs.Compatibility.{types_compatible}
use Rattle.ebpf_core_candidates.specs.TypeMatches.{types_match}
use Rattle.ebpf_core.specs.Fields.{field_value}
use Rattle.ebpf_core.specs.LocalPaths.{LocalSideIs}
use Rattle.ebpf_core.specs.Outcomes.{FirstVariantIs, match_of_number, type_value, variant_value}
use Rattle.ebpf_core.specs.Outcomes.{without_match}
use Rattle.ebpf_core.specs.Places.{PathLeads}
use Rattle.ebpf_core.specs.Searches.{candidates_for, itself, outcome_of, searched_kinds}
use Rattle.ebpf_core.specs.declared.field.FieldFault.{FieldFault}
use Rattle.ebpf_core.specs.declared.field.FieldValue.{FieldValue}
use Rattle.ebpf_core.specs.declared.field.LoadedField.{LoadedField}
use Rattle.ebpf_core.specs.declared.matches.MatchValue.{MatchValue}
use Rattle.ebpf_core.specs.declared.outcome.Outcome.{Outcome}
use Rattle.ebpf_core.specs.declared.paths.LocalPath.{LocalPath}
use Rattle.ebpf_core.specs.declared.paths.NamedPath.{NamedPath}
use Rattle.ebpf_core.specs.declared.paths.NamedPath.TheVariants as paths
use Rattle.ebpf_core.specs.declared.places.FieldPlace.{FieldPlace}
use Rattle.ebpf_core.specs.declared.places.Step.{Step}

-- ---- candidates

-- Whether a target type is of the kind of a local one. An ENUM64 that was made a UNION is of both
-- kinds.
abbrev pub is_of_kind_of : BtfType → BtfType → Bool
is_of_kind_of local_type target_type =
    is_kind (searched_kinds local_type).0 target_type
    || is_kind (searched_kinds local_type).1 target_type

-- The target type with an id is a candidate for the local type with another: both have the same
-- kind and, up to the first three underscores, the same name.
pub record IsCandidate (local target : TypeInfo) (local_id id : ℕ) : Type 0 where
  pub local_type : BtfType
  pub local_there : type_at local.types local_id ≡ Ok local_type
  pub local_name : List ℕ
  pub local_named : type_name local local_type ≡ Ok local_name
  pub target_type : BtfType
  pub there : slice_get target.types id ≡ Some target_type
  pub same_kind : is_of_kind_of local_type target_type ≡ true
  pub name : List ℕ
  pub named : type_name target target_type ≡ Ok name
  pub same_name : essential_name name ≡ essential_name local_name

-- ---- what a candidate has

-- The candidate with an id lacks what a path names: the path of a field leads nowhere, no
-- enumerator has the name, the type isn't compatible with the local one, or the local one doesn't
-- match it.
pub data LacksPath (local target : TypeInfo) (local_id id : ℕ) : NamedPath → Type 0 where
  LacksField : (steps : List Step) (place : FieldPlace) → PathLeads local target id steps (Ok None)
      → LacksPath local target local_id id (paths.Field steps place)
  LacksEnumerator : (name : List ℕ) (t : BtfType) → resolved_type target.types id ≡ Ok t
      → FirstVariantIs target name (unwrap_or (variants_of t) []) (Ok None)
      → LacksPath local target local_id id (paths.Variant name)
  IsIncompatible : types_compatible local local_id target id ≡ Ok false
      → LacksPath local target local_id id paths.WholeType
  DoesNotMatch : types_match local local_id target id ≡ Ok false
      → LacksPath local target local_id id paths.MatchedType

-- a field of a candidate, with its bit offset and what a kind asks of it
abbrev pub field_with : ℕ → FieldPlace → FieldValue → MatchValue
field_with id place value =
    record { candidate = id; bits = place.bits; number = Some value.number; loaded = value.loaded }

-- a field of which that can't be had
abbrev pub field_without : ℕ → FieldPlace → MatchValue
field_without id place = record { candidate = id; bits = place.bits; number = None; loaded = None }

-- The candidate with an id has what a path names, and this is its value. The path of a field leads,
-- name by name, to a field there. The first enumerator of the name has a value. The type is
-- compatible with the local one, or matched by it.
pub data HasPath (local target : TypeInfo) (kind : RelocationKind) (local_id id : ℕ)
    : NamedPath → MatchValue → Type 0 where
  HasField : (steps : List Step) (place there : FieldPlace) (value : FieldValue)
      → PathLeads local target id steps (Ok (Some there))
      → field_value target kind there ≡ Ok value
      → HasPath local target kind local_id id (paths.Field steps place) (field_with id there value)
  HasFieldAlone : (steps : List Step) (place there : FieldPlace) (fault : FieldFault)
      → PathLeads local target id steps (Ok (Some there))
      → field_value target kind there ≡ Err fault
      → HasPath local target kind local_id id (paths.Field steps place) (field_without id there)
  HasEnumerator : (name : List ℕ) (t : BtfType) (value : ℕ) → resolved_type target.types id ≡ Ok t
      → FirstVariantIs target name (unwrap_or (variants_of t) []) (Ok (Some value))
      → HasPath local target kind local_id id (paths.Variant name)
      (match_of_number id (variant_value kind value))
  IsCompatible : (number : ℕ) → types_compatible local local_id target id ≡ Ok true
      → type_value target kind id ≡ Ok number
      → HasPath local target kind local_id id paths.WholeType (match_of_number id number)
  Matches : (number : ℕ) → types_match local local_id target id ≡ Ok true
      → type_value target kind id ≡ Ok number
      → HasPath local target kind local_id id paths.MatchedType (match_of_number id number)

-- two candidates have it at the same bits and with the same number
pub record IsSameValue (a b : MatchValue) : Type 0 where
  pub bits : a.bits ≡ b.bits
  pub number : a.number ≡ b.number

-- The candidate with an id differs from a value in nothing: it lacks what the path names, or has
-- it with the same value.
pub data AgreesWith (local target : TypeInfo) (kind : RelocationKind) (local_id id : ℕ)
    (path : NamedPath) (value : MatchValue)
    : Type 0 where
  ByLack : LacksPath local target local_id id path
      → AgreesWith local target kind local_id id path value
  ByValue : (own : MatchValue) → HasPath local target kind local_id id path own
      → IsSameValue value own
      → AgreesWith local target kind local_id id path value

-- ---- the local side

-- What an instruction loads of the local field, as the object was compiled. Of an enumerator or a
-- type it loads nothing.
pub data LoadsLocally (local : TypeInfo) (kind : RelocationKind)
    : NamedPath → Option LoadedField → Type 0 where
  OfLocalField : (steps : List Step) (place : FieldPlace) (value : FieldValue)
      → field_value local kind place ≡ Ok value
      → LoadsLocally local kind (paths.Field steps place) value.loaded
  OfEnumerator : (name : List ℕ) → LoadsLocally local kind (paths.Variant name) None
  OfLocalType : LoadsLocally local kind paths.WholeType None
  OfMatchedType : LoadsLocally local kind paths.MatchedType None

-- A relocation names a path, to be looked for in the target: its access string leads to a field or
-- an enumerator of its local type, or it is about that type. The names of the target types of the
-- same kind can be read.
pub record IsSought (local target : TypeInfo) (r : Relocation) (path : NamedPath)
    (loaded : Option LoadedField)
    : Type 0 where
  pub type_name : List ℕ
  pub side : LocalSideIs local r (Ok (record { type_name = type_name; path = path }))
  pub loads : LoadsLocally local r.kind path loaded
  pub not_local : r.kind ≢ TypeIdLocal
  pub readable : is_ok (candidates_for local target r.type_id) ≡ true

-- ---- the value

-- A relocation has this outcome. The kind TypeIdLocal asks for the local id. Else the candidate of
-- the lowest id that has the path gives the value, and each later one agrees with it. Or no
-- candidate has the path.
pub data SamePathValue (local target : TypeInfo) (r : Relocation) : Outcome → Type 0 where
  OwnId : (path : LocalPath) → LocalSideIs local r (Ok path) → r.kind ≡ TypeIdLocal
      → SamePathValue local target r (itself r.type_id)
  InCandidate : (path : NamedPath) (loaded : Option LoadedField) (id : ℕ) (value : MatchValue)
      → IsSought local target r path loaded
      → IsCandidate local target r.type_id id
      → HasPath local target r.kind r.type_id id path value
      → ((other : ℕ) → IsCandidate local target r.type_id other → other < id
      → LacksPath local target r.type_id other path)
      → ((other : ℕ) → IsCandidate local target r.type_id other → id < other
      → AgreesWith local target r.kind r.type_id other path value)
      → SamePathValue local target r
      (record { value = value.number; local = loaded; target = value.loaded })
  InNoCandidate : (path : NamedPath) (loaded : Option LoadedField)
      → IsSought local target r path loaded
      → ((other : ℕ) → IsCandidate local target r.type_id other
      → LacksPath local target r.type_id other path)
      → SamePathValue local target r
      (record { value = without_match r.kind; local = loaded; target = None })

-- ---- what holds of every relocation and all types

-- each outcome is the value of the same path
abbrev pub OutcomesAreOfSamePaths : Type 0
OutcomesAreOfSamePaths =
    (local target : TypeInfo) (r : Relocation) (outcome : Outcome)
    → outcome_of local target r ≡ Ok outcome
    → SamePathValue local target r outcome

-- and that value is the outcome
abbrev pub SamePathsAreOutcomes : Type 0
SamePathsAreOutcomes =
    (local target : TypeInfo) (r : Relocation) (outcome : Outcome)
    → SamePathValue local target r outcome
    → outcome_of local target r ≡ Ok outcome

-- so there is one at most
abbrev pub SamePathValueIsOne : Type 0
SamePathValueIsOne =
    (local target : TypeInfo) (r : Relocation) (a b : Outcome)
    → SamePathValue local target r a
    → SamePathValue local target r b
    → a ≡ b
