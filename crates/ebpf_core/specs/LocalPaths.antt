-- What a relocation names in the object's own types: a field by the steps to it, an enumerator by
-- its name, or a type.
--
-- The equation is `local_path`; `LocalSideIs` says the same step by step. Of
-- `struct task { int pid; struct { int uid; } cred; }` the access string "0:1:0" gives the steps
-- `Index 0`, `Name "cred"`, `Name "uid"`, and the bit offset 32.
use Rattle.std.specs.Prelude.{ℕ, ◌^◌, ◌==◌, ◌&&◌, nat_le, nat_lt, List, [], ◌∷◌, length, map}
use Rattle.std.specs.Prelude.{Option, Some, None, option_map, Result, Ok, Err, if◌then◌else◌, ◌+◌}
use Rattle.std.specs.Prelude.{◌||◌, Bool, false, ◌++◌, fold, slice_get, ◌≡◌}
use Rattle.std.specs.List.{slice_split}
use Rattle.std.specs.Str.{all_ascii_digits}
use Rattle.std.specs.Str.Parse.{digits_value, without_leading_plus}
use Rattle.std.specs.Result.{result_ok}
use Rattle.ebpf_base.specs.Faults.{if_ok}
use Rattle.ebpf_btf.specs.Next.{if_some}
use Rattle.ebpf_btf.specs.declared.array.BtfArray.{BtfArray}
use Rattle.ebpf_btf.specs.declared.members.BtfMember.{BtfMember}
use Rattle.ebpf_btf_ext.specs.declared.relocation.Relocation.{Relocation}
use Rattle.ebpf_btf.specs.declared.types.BtfType.{BtfType}
use Rattle.ebpf_btf.specs.declared.variants.BtfVariant.{BtfVariant}
use Rattle.ebpf_btf.specs.Steps.{resolved, resolved_type, type_at}
use Rattle.ebpf_btf.specs.Strings.{text_at, type_name}
use Rattle.ebpf_btf.specs.TypeInfo.{TypeInfo}
use Rattle.ebpf_btf.specs.Types.{array_of, bit_offset, members_of}
use Rattle.ebpf_btf.specs.Variants.{variants_of}
use Rattle.ebpf_core.specs.declared.places.PlaceEnd.{PlaceEnd}
use Rattle.ebpf_core.specs.declared.places.PlaceEnd.TheVariants.{Element, Member}
use Rattle.ebpf_core.specs.declared.places.Step.{Step}
use Rattle.ebpf_core.specs.declared.places.Step.TheVariants.{Name, Index}
use Rattle.ebpf_core.specs.Places.{checked_place, element_place, is_last_of}
use Rattle.ebpf_btf_ext.specs.declared.relocation.RelocationKind.{RelocationKind}
use Rattle.ebpf_btf_ext.specs.declared.relocation.RelocationKind.TheVariants.{FieldByteOffset}
use Rattle.ebpf_btf_ext.specs.declared.relocation.RelocationKind.TheVariants.{FieldByteSize}
use Rattle.ebpf_btf_ext.specs.declared.relocation.RelocationKind.TheVariants.{FieldExists}
use Rattle.ebpf_btf_ext.specs.declared.relocation.RelocationKind.TheVariants.{FieldSigned}
use Rattle.ebpf_btf_ext.specs.declared.relocation.RelocationKind.TheVariants.{FieldLShift64}
use Rattle.ebpf_btf_ext.specs.declared.relocation.RelocationKind.TheVariants.{FieldRShift64}
use Rattle.ebpf_btf_ext.specs.declared.relocation.RelocationKind.TheVariants.{TypeIdLocal}
use Rattle.ebpf_btf_ext.specs.declared.relocation.RelocationKind.TheVariants.{TypeIdTarget}
use Rattle.ebpf_btf_ext.specs.declared.relocation.RelocationKind.TheVariants.{TypeExists, TypeSize}
use Rattle.ebpf_btf_ext.specs.declared.relocation.RelocationKind.TheVariants.{EnumVariantExists}
use Rattle.ebpf_btf_ext.specs.declared.relocation.RelocationKind.TheVariants.{EnumVariantValue}
use Rattle.ebpf_btf_ext.specs.declared.relocation.RelocationKind.TheVariants.{TypeMatches}
use Rattle.ebpf_btf.specs.declared.error.BtfError.{BtfError as TypeError}
use Rattle.ebpf_core.specs.declared.error.RelocationError.{RelocationError}
use Rattle.ebpf_core.specs.declared.error.RelocationError.TheVariants.{InvalidAccessString}
use Rattle.ebpf_core.specs.declared.error.RelocationError.TheVariants.{MaximumNestingLevelReached}
use Rattle.ebpf_core.specs.declared.error.RelocationError.TheVariants.{InvalidAccessIndex}
use Rattle.ebpf_core.specs.declared.error.RelocationError.TheVariants.{InvalidRelocationKindForType}
use Rattle.ebpf_core.specs.declared.error.RelocationError.TheVariants.{BtfError}
use Rattle.ebpf_core.specs.declared.paths.LocalPath.{LocalPath}
use Rattle.ebpf_core.specs.declared.paths.NamedPath.{NamedPath}
use Rattle.ebpf_core.specs.declared.local_walk.LocalSpot.{LocalSpot}
use Rattle.ebpf_core.specs.declared.paths.RelocationBasis.{RelocationBasis}
use Rattle.ebpf_core.specs.Answers.{of_types}
use Rattle.ebpf_core.specs.declared.paths.RelocationBasis.TheVariants.{Field, WholeType, Variant}
use Rattle.ebpf_core.specs.declared.paths.RelocationBasis.TheVariants.{MatchedType}
use Rattle.ebpf_core.specs.declared.paths.NamedPath.TheVariants as paths
use Rattle.ebpf_core.specs.declared.paths.RelocationBasis.TheVariants as bases

-- the number that some decimal digits write, where there are any and it has at most 64 bits
abbrev pub number_of_digits : List ℕ → Option ℕ
number_of_digits digits =
    if nat_lt 0 (length digits)
    && all_ascii_digits digits
    && nat_lt (digits_value 10 digits) (2 ^ 64)
    then Some (digits_value 10 digits)
    else None

-- an accessor: the number that a piece writes, with or without a plus before it
unfoldable pub accessor_of : List ℕ → Option ℕ
accessor_of piece = number_of_digits (without_leading_plus piece)

-- all members of a list, where each is there
abbrev pub all_of : {X : Type 0} → List (Option X) → Option (List X)
all_of [] = Some []
all_of (None ∷ xs) = None
all_of (Some x ∷ xs) = option_map (λ ys. x ∷ ys) (all_of xs)

-- the accessors of an access string, where each piece between its colons is one
abbrev pub accessors_of : List ℕ → Option (List ℕ)
accessors_of access = all_of (map accessor_of (slice_split (λ b. b == 58) access))

-- how many accessors there may be
abbrev pub most_accessors : ℕ
most_accessors = 64

-- the accessors, of which there may be so many; the faults speak of the local type's name and of
-- the string
abbrev pub accessors : List ℕ → List ℕ → Result (List ℕ) RelocationError
accessors type_name access =
    if_some (accessors_of access)
    (λ parts.
    if nat_le (length parts) most_accessors
    then Ok parts
    else Err (MaximumNestingLevelReached type_name))
    (Err (InvalidAccessString access))

-- ---- whether records are on fields, types or variants, by their kinds (the kernel's
-- include/uapi/linux/bpf.h, enum bpf_core_relo_kind)

abbrev pub basis_of : RelocationKind → RelocationBasis
basis_of FieldByteOffset = Field
basis_of FieldByteSize = Field
basis_of FieldExists = Field
basis_of FieldSigned = Field
basis_of FieldLShift64 = Field
basis_of FieldRShift64 = Field
basis_of TypeIdLocal = WholeType
basis_of TypeIdTarget = WholeType
basis_of TypeExists = WholeType
basis_of TypeSize = WholeType
basis_of TypeMatches = MatchedType
basis_of EnumVariantExists = Variant
basis_of EnumVariantValue = Variant

-- ---- the faults

abbrev pub wrong_string : {X : Type 0} → List ℕ → Result X RelocationError
wrong_string access = Err (InvalidAccessString access)

-- an accessor is past so many things
abbrev pub past : {X : Type 0} → List ℕ → ℕ → ℕ → Result X RelocationError
past access part count = Err (InvalidAccessIndex [] access part count [])

-- what the record with a number asks can't be asked of this type
abbrev pub wrong_kind : {X : Type 0} → ℕ → Result X RelocationError
wrong_kind number = Err (InvalidRelocationKindForType number [] [] [])

-- ---- a field: the steps to it

-- to an element of a type, of which the first is at a bit
abbrev pub spot_at_element : TypeInfo → List Step → ℕ → ℕ → ℕ → Result LocalSpot RelocationError
spot_at_element info steps bits id index =
    if_ok (of_types (element_place info.types bits id index)) (λ place.
    Ok
    (record
    { steps = steps ++ Index index ∷ []; place = place; index = index; type_id = id }))

-- the type of a step: the type of an element, or the type that has the member
abbrev pub type_of_step : List BtfType → PlaceEnd → Option BtfType
type_of_step types (Element id) = result_ok (resolved_type types id)
type_of_step types (Member parent index) = slice_get types parent

-- whether the last step led to the last member of a STRUCT
abbrev pub ends_struct : List BtfType → LocalSpot → Bool
ends_struct types from = if_some (type_of_step types from.place.end) (is_last_of from.index) false

-- an index is below the number of elements, or there are none and the ARRAY ends a STRUCT
abbrev pub is_element : List BtfType → LocalSpot → ℕ → ℕ → Bool
is_element types from count index = nat_lt index count || (count == 0 && ends_struct types from)

abbrev pub into_array : TypeInfo → List ℕ → LocalSpot → BtfArray → ℕ
    → Result LocalSpot RelocationError
into_array info access from array index =
    if is_element info.types from array.len index
    then spot_at_element info from.steps from.place.bits array.element_type index
    else past access index array.len

-- a member without a name adds its bits and no step
abbrev pub spot_at_member : TypeInfo → LocalSpot → ℕ → BtfType → ℕ → BtfMember
    → Result LocalSpot RelocationError
spot_at_member info from parent t index member =
    let bits = from.place.bits + bit_offset t member in
    if member.name_offset == 0
    then if_ok (of_types (checked_place bits from.place.end)) (λ place.
    Ok (record from { place = place; type_id = member.btf_type }))
    else if_ok (of_types (text_at info.strings member.name_offset)) (λ name.
    if_ok (of_types (checked_place bits (Member parent index))) (λ place.
    Ok (record {
      steps = from.steps ++ Name name member.btf_type ∷ [];
      place = place;
      index = index;
      type_id = member.btf_type;
    })))

abbrev pub into_members : TypeInfo → List ℕ → LocalSpot → ℕ → BtfType → List BtfMember → ℕ
    → Result LocalSpot RelocationError
into_members info access from parent t members index =
    if_some (slice_get members index) (spot_at_member info from parent t index)
    (past access index (length members))

-- where an accessor leads: to a member of a STRUCT or UNION, or to an element of an ARRAY
unfoldable pub part_step : TypeInfo → ℕ → List ℕ → LocalSpot → ℕ → Result LocalSpot RelocationError
part_step info number access from part =
    if_ok (of_types (resolved info.types from.type_id)) (λ id.
    if_ok (of_types (type_at info.types id)) (λ t.
    if_some (members_of t) (λ members. into_members info access from id t members part)
    (if_some (array_of t) (λ array. into_array info access from array part) (wrong_kind number))))

-- where accessors lead, one after the other
unfoldable pub spot_after : TypeInfo → ℕ → List ℕ → List ℕ → LocalSpot
    → Result LocalSpot RelocationError
spot_after info number access parts from =
    fold (λ so_far part. if_ok so_far (λ spot. part_step info number access spot part)) (Ok from)
    parts

-- the first accessor counts in the local type itself
unfoldable pub field_path : TypeInfo → ℕ → List ℕ → ℕ → List ℕ → Result NamedPath RelocationError
field_path info number access id [] = wrong_string access
field_path info number access id (root ∷ parts) =
    if_ok (spot_at_element info [] 0 id root) (λ start.
    if_ok (spot_after info number access parts start) (λ end. Ok (paths.Field end.steps end.place)))

-- ---- a type, and a variant of an enumeration

-- the only accessor
abbrev pub only_accessor : List ℕ → Option ℕ
only_accessor (part ∷ []) = Some part
only_accessor _ = None

abbrev pub type_path : NamedPath → List ℕ → List ℕ → Result NamedPath RelocationError
type_path path access parts =
    if_some (only_accessor parts)
    (λ part. if part == 0 then Ok path else wrong_string access)
    (wrong_string access)

abbrev pub named_variant : TypeInfo → BtfVariant → Result NamedPath RelocationError
named_variant info variant =
    if_ok (of_types (text_at info.strings variant.name_offset)) (λ name. Ok (paths.Variant name))

unfoldable pub variant_path : TypeInfo → ℕ → List ℕ → BtfType → List ℕ
    → Result NamedPath RelocationError
variant_path info number access t parts =
    if_some (variants_of t)
    (λ variants. if_some (only_accessor parts)
    (λ part.
    if_some (slice_get variants part) (named_variant info) (past access part (length variants)))
    (wrong_string access))
    (wrong_kind number)

-- ---- the local side of a record

abbrev pub path_for : TypeInfo → ℕ → List ℕ → ℕ → List ℕ → RelocationBasis
    → Result NamedPath RelocationError
path_for info number access id parts bases.WholeType = type_path paths.WholeType access parts
path_for info number access id parts bases.MatchedType = type_path paths.MatchedType access parts
path_for info number access id parts bases.Variant =
    if_ok (of_types (type_at info.types id)) (λ t. variant_path info number access t parts)
path_for info number access id parts bases.Field = field_path info number access id parts

-- The name of the local type, and the path in it. The type is resolved once the string is read.
unfoldable pub local_path : TypeInfo → Relocation → Result LocalPath RelocationError
local_path info r =
    if_ok (of_types (type_at info.types r.type_id)) (λ t.
    if_ok (of_types (type_name info t)) (λ name.
    if_ok (of_types (text_at info.strings r.access_str_off)) (λ access.
    if_ok (accessors name access) (λ parts.
    if_ok (of_types (resolved info.types r.type_id)) (λ id.
    if_ok (path_for info r.number access id parts (basis_of r.kind)) (λ path. Ok (record {
      type_name
          = name;
      path = path;
    })))))))

-- ---- what a record says of its local type, step by step

-- Some accessors of an access string lead so from a spot: one after the other, up to the first that
-- has a fault.
pub data AccessorsLead (info : TypeInfo) (number : ℕ) (access : List ℕ)
    : List ℕ → LocalSpot → Result LocalSpot RelocationError → Type 0 where
  Arrived : (from : LocalSpot) → AccessorsLead info number access [] from (Ok from)
  Refused : (part : ℕ) (parts : List ℕ) (from : LocalSpot) (fault : RelocationError)
      → part_step info number access from part ≡ Err fault
      → AccessorsLead info number access (part ∷ parts) from (Err fault)
  Onward : (part : ℕ) (parts : List ℕ) (from next : LocalSpot)
      (answer : Result LocalSpot RelocationError)
      → part_step info number access from part ≡ Ok next
      → AccessorsLead info number access parts next answer
      → AccessorsLead info number access (part ∷ parts) from answer

-- The accessors of an access string lead so to a field of the type with an id. The first accessor
-- counts in the type itself.
pub data FieldLeads (info : TypeInfo) (number : ℕ) (access : List ℕ) (id : ℕ)
    : List ℕ → Result NamedPath RelocationError → Type 0 where
  NoPart : FieldLeads info number access id [] (wrong_string access)
  NoRoot : (root : ℕ) (parts : List ℕ) (fault : RelocationError)
      → spot_at_element info [] 0 id root ≡ Err fault
      → FieldLeads info number access id (root ∷ parts) (Err fault)
  NoField : (root : ℕ) (parts : List ℕ) (start : LocalSpot) (fault : RelocationError)
      → spot_at_element info [] 0 id root ≡ Ok start
      → AccessorsLead info number access parts start (Err fault)
      → FieldLeads info number access id (root ∷ parts) (Err fault)
  ToField : (root : ℕ) (parts : List ℕ) (start end : LocalSpot)
      → spot_at_element info [] 0 id root ≡ Ok start
      → AccessorsLead info number access parts start (Ok end)
      → FieldLeads info number access id (root ∷ parts) (Ok (paths.Field end.steps end.place))

-- The accessors of a record's access string lead so in the type with an id, by what the record's
-- kind asks about.
pub data LocalPathLeads (info : TypeInfo) (r : Relocation) (access : List ℕ) (id : ℕ)
    (parts : List ℕ)
    : Result NamedPath RelocationError → Type 0 where
  OfType : basis_of r.kind ≡ bases.WholeType
      → LocalPathLeads info r access id parts (type_path paths.WholeType access parts)
  OfMatchedType : basis_of r.kind ≡ bases.MatchedType
      → LocalPathLeads info r access id parts (type_path paths.MatchedType access parts)
  NoType : (e : TypeError)
      → basis_of r.kind ≡ bases.Variant
      → type_at info.types id ≡ Err e
      → LocalPathLeads info r access id parts (Err (BtfError e))
  OfVariant : (t : BtfType) → basis_of r.kind ≡ bases.Variant → type_at info.types id ≡ Ok t
      → LocalPathLeads info r access id parts (variant_path info r.number access t parts)
  OfField : (answer : Result NamedPath RelocationError)
      → basis_of r.kind ≡ bases.Field
      → FieldLeads info r.number access id parts answer
      → LocalPathLeads info r access id parts answer

-- a record's local type, its name, and the access string
pub record IsRead (info : TypeInfo) (r : Relocation) (name access : List ℕ) : Type 0 where
  pub type : BtfType
  pub there : type_at info.types r.type_id ≡ Ok type
  pub named : type_name info type ≡ Ok name
  pub access_is : text_at info.strings r.access_str_off ≡ Ok access

-- The local side of a record is so: the first of its steps that has a fault, or the name of the
-- type and the path in it.
-- The type is resolved once the string is read.
pub data LocalSideIs (info : TypeInfo) (r : Relocation) : Result LocalPath RelocationError
    → Type 0 where
  NoLocalType : (e : TypeError) → type_at info.types r.type_id ≡ Err e
      → LocalSideIs info r (Err (BtfError e))
  NoName : (t : BtfType) (e : TypeError) → type_at info.types r.type_id ≡ Ok t
      → type_name info t ≡ Err e → LocalSideIs info r (Err (BtfError e))
  NoString : (t : BtfType) (name : List ℕ) (e : TypeError)
      → type_at info.types r.type_id ≡ Ok t
      → type_name info t ≡ Ok name
      → text_at info.strings r.access_str_off ≡ Err e → LocalSideIs info r (Err (BtfError e))
  NoAccessors : (name access : List ℕ) (fault : RelocationError)
      → IsRead info r name access
      → accessors name access ≡ Err fault
      → LocalSideIs info r (Err fault)
  NotResolved : (name access parts : List ℕ) (e : TypeError)
      → IsRead info r name access
      → accessors name access ≡ Ok parts
      → resolved info.types r.type_id ≡ Err e → LocalSideIs info r (Err (BtfError e))
  NoPath : (name access parts : List ℕ) (id : ℕ) (fault : RelocationError)
      → IsRead info r name access
      → accessors name access ≡ Ok parts
      → resolved info.types r.type_id ≡ Ok id
      → LocalPathLeads info r access id parts (Err fault)
      → LocalSideIs info r (Err fault)
  Led : (name access parts : List ℕ) (id : ℕ) (path : NamedPath)
      → IsRead info r name access
      → accessors name access ≡ Ok parts
      → resolved info.types r.type_id ≡ Ok id → LocalPathLeads info r access id parts (Ok path)
      → LocalSideIs info r (Ok (record { type_name = name; path = path }))
