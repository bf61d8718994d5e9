-- The members of a struct that declares a map (libbpf's "BTF-defined maps"), and the definition
-- that they make.
use Rattle.std.specs.Prelude.{ℕ, ◌+◌, ◌*◌, ◌^◌, Bool, true, false, List, [], ◌∷◌, Option, Some}
use Rattle.std.specs.Prelude.{None, Result, Ok, Err, ◌==◌, nat_lt, unwrap_or, slice_get, codes}
use Rattle.std.specs.Prelude.{if◌then◌else◌}
use Rattle.std.specs.Str.{bytes_eq}
use Rattle.ebpf_base.specs.Faults.{first_of, or_else, if_ok}
use Rattle.ebpf_btf.specs.Next.{if_some}
use Rattle.ebpf_btf.specs.Steps.{type_at, resolved, resolved_type, size_of}
use Rattle.ebpf_btf.specs.Strings.{text_at}
use Rattle.ebpf_btf.specs.Types.{array_of, type_word}
use Rattle.ebpf_btf.specs.declared.error.BtfError.{BtfError}
use Rattle.ebpf_btf.specs.declared.error.BtfError.TheVariants.{UnexpectedBtfType, InvalidValuesSpec}
use Rattle.ebpf_btf.specs.declared.members.BtfMember.{BtfMember}
use Rattle.ebpf_btf.specs.declared.types.BtfType.{BtfType}
use Rattle.ebpf_btf.specs.declared.types.BtfType.TheVariants.{Ptr, Struct, Enum, Enum64, FuncProto}
use Rattle.ebpf_btf_decls.specs.declared.members.MapDefinitions.{MapDefinitions}
use Rattle.ebpf_btf_decls.specs.declared.members.MapMember.{MapMember}
use Rattle.ebpf_btf_decls.specs.declared.members.MapMember.TheVariants as about
use Rattle.ebpf_btf_decls.specs.declared.members.MapNumber.{MapNumber}
use Rattle.ebpf_btf_decls.specs.declared.members.MapNumber.TheVariants.{MapType, KeySize, ValueSize}
use Rattle.ebpf_btf_decls.specs.declared.members.MapNumber.TheVariants.{MaxEntries, MapFlags}
use Rattle.ebpf_btf_decls.specs.declared.members.MapNumber.TheVariants.{MapExtra}
use Rattle.ebpf_btf_decls.specs.declared.members.MemberValue.{MemberValue}
use Rattle.ebpf_btf_decls.specs.declared.members.MemberValue.TheVariants.{Number, Pinning, Key}
use Rattle.ebpf_btf_decls.specs.declared.members.MemberValue.TheVariants.{Value, Values, Programs}
use Rattle.ebpf_btf_decls.specs.declared.members.MemberValue.TheVariants.{Extra}
use Rattle.ebpf_parts.specs.declared.maps.definition.BtfMapDef.{BtfMapDef}
use Rattle.ebpf_parts.specs.declared.maps.definition.PinningType.{PinningType}
use Rattle.ebpf_parts.specs.declared.maps.definition.PinningType.TheVariants as pinned

-- ---- the members of a struct that declares a map (libbpf's "BTF-defined maps"). A number is
-- spelled by the length of an array that a member points to, a type by a member that points to it.

-- what a member of this name is about
unfoldable pub map_member : List ℕ → MapMember
map_member name = unwrap_or (first_of (
    (bytes_eq name (codes "type"), about.Number MapType)
    ∷ (bytes_eq name (codes "key_size"), about.Number KeySize)
    ∷ (bytes_eq name (codes "value_size"), about.Number ValueSize)
    ∷ (bytes_eq name (codes "max_entries"), about.Number MaxEntries)
    ∷ (bytes_eq name (codes "map_flags"), about.Number MapFlags)
    ∷ (bytes_eq name (codes "map_extra"), about.Number MapExtra)
    ∷ (bytes_eq name (codes "key"), about.Key)
    ∷ (bytes_eq name (codes "value"), about.Value)
    ∷ (bytes_eq name (codes "pinning"), about.Pinning)
    ∷ (bytes_eq name (codes "values"), about.Values)
    ∷ [])) about.Other

abbrev pub map_member_at : List ℕ → BtfMember → Result MapMember BtfError
map_member_at strings m = if_ok (text_at strings m.name_offset) (λ name. Ok (map_member name))

-- ---- types that members lead to

-- another kind than the wanted one: the error holds the id of the type that it holds, or 0
abbrev pub unexpected_type : BtfType → BtfError
unexpected_type t = UnexpectedBtfType (unwrap_or (type_word t) 0)

-- what a PTR points to
unfoldable pub pointee : BtfType → Option ℕ
pointee (Ptr _ id) = Some id
pointee _ = None

-- the members of a STRUCT
unfoldable pub struct_members : BtfType → Option (List BtfMember)
struct_members (Struct _ _ _ members) = Some members
struct_members _ = None

-- the number that a member spells
unfoldable pub number : List BtfType → ℕ → Result ℕ BtfError
number types id =
    if_ok (type_at types id) (λ p.
    if_some (pointee p)
    (λ a.
    if_ok (type_at types a) (λ t.
    if_some (array_of t) (λ array. Ok array.len) (Err (unexpected_type t))))
    (Err (unexpected_type p)))

-- an ENUM's value has its sign extended, as libbpf widens it whatever the ENUM says of its values
abbrev pub extended_enum_value : ℕ → ℕ
extended_enum_value value = if nat_lt value 0x80000000 then value else value + 0xFFFFFFFF00000000

-- the number that an ENUM or ENUM64 of one value is (libbpf's `__ulong`)
unfoldable pub sole_value : BtfType → Option ℕ
sole_value (Enum _ _ _ (e ∷ [])) = Some (extended_enum_value e.value)
sole_value (Enum64 _ _ _ (e ∷ [])) = Some (e.value_high * 2 ^ 32 + e.value_low)
sole_value _ = None

abbrev pub sole_value_in : Result BtfType BtfError → Option ℕ
sole_value_in (Ok t) = sole_value t
sole_value_in (Err e) = None

-- the number that a member is itself, modifiers followed
unfoldable pub own_number : List BtfType → ℕ → Option ℕ
own_number types id = sole_value_in (resolved_type types id)

-- the type that a member spells, with its size
unfoldable pub sized_type : List BtfType → ℕ → Result (ℕ × ℕ) BtfError
sized_type types id =
    if_ok (type_at types id) (λ p.
    if_some (pointee p)
    (λ t. if_ok (size_of types t) (λ size. Ok (t, size)))
    (Err (UnexpectedBtfType id)))

-- a type of functions
unfoldable pub is_prototype : BtfType → Bool
is_prototype (FuncProto _ _ _) = true
is_prototype _ = false

abbrev pub is_prototype_in : Option BtfType → Bool
is_prototype_in (Some t) = is_prototype t
is_prototype_in None = false

-- whether the type with an id is one
unfoldable pub is_prototype_at : List BtfType → ℕ → Bool
is_prototype_at types id = is_prototype_in (slice_get types id)

-- the members of the STRUCT with an id
unfoldable pub members_at : List BtfType → ℕ → Result (List BtfMember) BtfError
members_at types id =
    if_ok (type_at types id) (λ t.
    if_some (struct_members t) (λ members. Ok members) (Err (unexpected_type t)))

-- the id of what a pointer points to, modifiers followed before it and behind it
unfoldable pub pointee_struct : List BtfType → ℕ → Result ℕ BtfError
pointee_struct types id =
    if_ok (resolved_type types id) (λ p.
    if_some (pointee p) (λ s. resolved types s) (Err (unexpected_type p)))

-- the id of the struct of the maps that a map holds: the member is an ARRAY of no elements that
-- point to it
unfoldable pub inner_map_struct : List BtfType → List ℕ → ℕ → Result ℕ BtfError
inner_map_struct types name id =
    if_ok (type_at types id) (λ t.
    if_some (array_of t)
    (λ array.
    if array.len == 0
    then pointee_struct types array.element_type
    else Err (InvalidValuesSpec name))
    (Err (unexpected_type t)))

-- ---- the value of one member

abbrev pub map_number_index : MapNumber → ℕ
map_number_index MapType = 0
map_number_index KeySize = 1
map_number_index ValueSize = 2
map_number_index MaxEntries = 3
map_number_index MapFlags = 4
map_number_index MapExtra = 5

abbrev pub same_number : MapNumber → MapNumber → Bool
same_number a b = map_number_index a == map_number_index b

-- a number: its own, the size of a key or value of a type, 4 for a value that is a map or a program
abbrev pub number_field : MapNumber → MemberValue → Option ℕ
number_field wanted (Number of n) = if same_number wanted of then Some n else None
number_field wanted (Key id size) = if same_number wanted KeySize then Some size else None
number_field wanted (Value id size) = if same_number wanted ValueSize then Some size else None
number_field wanted (Values inner) = if same_number wanted ValueSize then Some 4 else None
number_field wanted Programs = if same_number wanted ValueSize then Some 4 else None
number_field wanted (Extra n) = if same_number wanted MapExtra then Some n else None
number_field wanted _ = None

abbrev pub pinning_field : MemberValue → Option PinningType
pinning_field (Pinning how) = Some how
pinning_field _ = None

-- the id of the type of keys, and of values
abbrev pub key_type_field : MemberValue → Option ℕ
key_type_field (Key id size) = Some id
key_type_field _ = None

abbrev pub value_type_field : MemberValue → Option ℕ
value_type_field (Value id size) = Some id
value_type_field _ = None

-- the maps that a map holds, where its values are none but maps or programs
abbrev pub inner_def_field : MemberValue → Option (Option BtfMapDef)
inner_def_field (Values inner) = Some (Some inner)
inner_def_field Programs = Some None
inner_def_field _ = None

-- ---- the values of all

-- the value of the last of them that gives one
abbrev pub last_some : {X : Type 0} → (MemberValue → Option X) → List MemberValue → Option X
last_some value_of [] = None
last_some value_of (s ∷ later) = or_else (last_some value_of later) (value_of s)

-- that value, or what stood before where none of them gives one
abbrev pub last_or : {X : Type 0} → (MemberValue → Option X) → X → List MemberValue → X
last_or value_of before all = unwrap_or (last_some value_of all) before

-- a definition with the values of members
unfoldable pub with_all : MapDefinitions → List MemberValue → MapDefinitions
with_all d all = record {
  def = record {
    map_type = last_or (number_field MapType) d.def.map_type all;
    key_size = last_or (number_field KeySize) d.def.key_size all;
    value_size = last_or (number_field ValueSize) d.def.value_size all;
    max_entries = last_or (number_field MaxEntries) d.def.max_entries all;
    map_flags = last_or (number_field MapFlags) d.def.map_flags all;
    map_extra = last_or (number_field MapExtra) d.def.map_extra all;
    pinning = last_or pinning_field d.def.pinning all;
    btf_key_type_id = last_or key_type_field d.def.btf_key_type_id all;
    btf_value_type_id = last_or value_type_field d.def.btf_value_type_id all;
  };
  inner_def = last_or inner_def_field d.inner_def all;
}

-- where no member gives a value
abbrev pub no_definition : BtfMapDef
no_definition = record {
  map_type = 0;
  key_size = 0;
  value_size = 0;
  max_entries = 0;
  map_flags = 0;
  map_extra = 0;
  pinning = pinned.None;
  btf_key_type_id = 0;
  btf_value_type_id = 0;
}

abbrev pub no_definitions : MapDefinitions
no_definitions = record { def = no_definition; inner_def = None }
