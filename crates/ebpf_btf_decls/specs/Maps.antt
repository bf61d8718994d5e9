-- BTF-defined maps (libbpf's word): those of the DATASECs of a section as `.maps`.
use Rattle.std.specs.List.{flat_map}
use Rattle.std.specs.Prelude.{Option, option_map, ℕ, Bool, false, List, [], Some, None, Result, Ok}
use Rattle.std.specs.Prelude.{Err, ◌==◌, if◌then◌else◌}
use Rattle.ebpf_base.specs.Faults.{first_some, fault_of, if_ok}
use Rattle.ebpf_btf.specs.Next.{if_some}
use Rattle.ebpf_btf.specs.Steps.{type_at, resolved}
use Rattle.ebpf_btf.specs.Strings.{type_name}
use Rattle.ebpf_btf.specs.TypeInfo.{TypeInfo}
use Rattle.ebpf_btf.specs.declared.error.BtfError.{BtfError}
use Rattle.ebpf_btf.specs.declared.error.BtfError.TheVariants.{InnerMapCannotBePinned}
use Rattle.ebpf_btf.specs.declared.error.BtfError.TheVariants.{MultiLevelMapInMapNotSupported}
use Rattle.ebpf_btf.specs.declared.members.BtfMember.{BtfMember}
use Rattle.ebpf_btf.specs.declared.members.DataSecEntry.{DataSecEntry}
use Rattle.ebpf_btf.specs.declared.types.BtfType.{BtfType}
use Rattle.ebpf_btf.specs.declared.types.BtfType.TheVariants.{Var}
use Rattle.ebpf_btf_decls.specs.DataSections.{given, all_given, DatasecMatch, Named, UnreadableName}
use Rattle.ebpf_btf_decls.specs.DataSections.{datasec_match}
use Rattle.ebpf_btf_decls.specs.MapMembers.{unexpected_type, number, sized_type, own_number}
use Rattle.ebpf_btf_decls.specs.MapMembers.{is_prototype_at, members_at, inner_map_struct}
use Rattle.ebpf_btf_decls.specs.MapMembers.{map_member_at, no_definitions, with_all}
use Rattle.ebpf_btf_decls.specs.declared.members.MapDefinitions.{MapDefinitions}
use Rattle.ebpf_btf_decls.specs.declared.members.MapMember.{MapMember}
use Rattle.ebpf_btf_decls.specs.declared.members.MapMember.TheVariants as about
use Rattle.ebpf_btf_decls.specs.declared.members.MapNumber.{MapNumber}
use Rattle.ebpf_btf_decls.specs.declared.members.MapNumber.TheVariants as numbers
use Rattle.ebpf_btf_decls.specs.declared.members.MemberValue.{MemberValue}
use Rattle.ebpf_btf_decls.specs.declared.members.MemberValue.TheVariants as values
use Rattle.ebpf_parts.specs.declared.error.ParseError.{ParseError}
use Rattle.ebpf_parts.specs.declared.error.ParseError.TheVariants as errors
use Rattle.ebpf_parts.specs.declared.maps.definition.BtfMapDef.{BtfMapDef}
use Rattle.ebpf_parts.specs.declared.maps.either.Map.{Map}
use Rattle.ebpf_parts.specs.declared.maps.either.Map.TheVariants.{Btf}
use Rattle.ebpf_parts.specs.declared.maps.definition.PinningType.{PinningType}
use Rattle.ebpf_parts.specs.declared.maps.definition.PinningType.TheVariants as pinned
use Rattle.ebpf_parts.specs.declared.parse_mode.ParseMode.{ParseMode}
use Rattle.ebpf_parts.specs.declared.parse_mode.ParseMode.TheVariants.{Strict, Lenient}

-- ---- types that declare maps, and how what they declare is read

pub record TypesInMode : Type 0 where
  pub mode : ParseMode
  pub types : TypeInfo

-- of an object that may have types
abbrev pub types_in_mode : ParseMode → Option TypeInfo → Option TypesInMode
types_in_mode mode types = option_map (λ t. record { mode = mode; types = t }) types

-- ---- the value of a member

abbrev pub pinning_by_number : ℕ → PinningType
pinning_by_number n = if n == 1 then pinned.ByName else pinned.None

-- what `map_extra` is itself: only in lenient parsing
abbrev pub own_extra : ParseMode → List BtfType → MapNumber → ℕ → Option ℕ
own_extra Lenient types numbers.MapExtra id = own_number types id
own_extra _ types of id = None

-- a number, which a member spells, or is itself
abbrev pub number_value : ParseMode → List BtfType → MapNumber → ℕ → Result MemberValue BtfError
number_value mode types of id =
    if_some (own_extra mode types of id) (λ n. Ok (values.Extra n))
    (if_ok (number types id) (λ n. Ok (values.Number of n)))

-- a number or a type; members of other names say nothing
unfoldable pub plain_value : ParseMode → List BtfType → MapMember → ℕ → Result MemberValue BtfError
plain_value mode types (about.Number of) id = number_value mode types of id
plain_value mode types about.Pinning id =
    if_ok (number types id) (λ n. Ok (values.Pinning (pinning_by_number n)))
plain_value mode types about.Key id = if_ok (sized_type types id) (λ t. Ok (values.Key t.0 t.1))
plain_value mode types about.Value id = if_ok (sized_type types id) (λ t. Ok (values.Value t.0 t.1))
plain_value mode types _ id = Ok values.Nothing

-- a definition with what members say, or the first fault of a member
abbrev pub with_members : (BtfMember → Result MemberValue BtfError)
    → MapDefinitions
    → List BtfMember
    → Result MapDefinitions BtfError
with_members value_of d members = if_ok (all_given value_of members) (λ all. Ok (with_all d all))

-- of an inner map of the map with a name, which neither is pinned nor holds maps
unfoldable pub inner_member_value_of : ParseMode → TypeInfo → List ℕ → MapMember → ℕ
    → Result MemberValue BtfError
inner_member_value_of mode info name about.Pinning id = Err (InnerMapCannotBePinned name)
inner_member_value_of mode info name about.Values id = Err (MultiLevelMapInMapNotSupported name)
inner_member_value_of mode info name member id = plain_value mode info.types member id

unfoldable pub inner_member_value : ParseMode → TypeInfo → List ℕ → BtfMember
    → Result MemberValue BtfError
inner_member_value mode info name m =
    if_ok (map_member_at info.strings m) (λ member.
    inner_member_value_of mode info name member m.btf_type)

abbrev pub inner_definition : ParseMode → TypeInfo → List ℕ → List BtfMember
    → Result BtfMapDef BtfError
inner_definition mode info name members =
    if_ok (with_members (inner_member_value mode info name) no_definitions members) (λ d. Ok d.def)

-- what the STRUCT with an id says of the maps that the map with a name holds
abbrev pub inner_struct_definition : ParseMode → TypeInfo → List ℕ → ℕ → Result BtfMapDef BtfError
inner_struct_definition mode info name id =
    if_ok (members_at info.types id) (λ members. inner_definition mode info name members)

-- whether values are programs, by the type that an element points to: only in lenient parsing
abbrev pub are_programs : ParseMode → List BtfType → ℕ → Bool
are_programs Lenient types id = is_prototype_at types id
are_programs Strict types id = false

-- of the map with a name, which may hold maps or programs
unfoldable pub member_value_of : ParseMode → TypeInfo → List ℕ → MapMember → ℕ
    → Result MemberValue BtfError
member_value_of mode info name about.Values id =
    if_ok (inner_map_struct info.types name id) (λ struct_id.
    if are_programs mode info.types struct_id then Ok values.Programs
    else if_ok (inner_struct_definition mode info name struct_id) (λ inner. Ok (values.Values
    inner)))
member_value_of mode info name member id = plain_value mode info.types member id

unfoldable pub member_value : ParseMode → TypeInfo → List ℕ → BtfMember
    → Result MemberValue BtfError
member_value mode info name m =
    if_ok (map_member_at info.strings m) (λ member.
    member_value_of mode info name member m.btf_type)

abbrev pub definitions : ParseMode → TypeInfo → List ℕ → List BtfMember
    → Result MapDefinitions BtfError
definitions mode info name members =
    with_members (member_value mode info name) no_definitions members

-- what the STRUCT with an id says of the map with a name
abbrev pub struct_definitions : ParseMode → TypeInfo → List ℕ → ℕ → Result MapDefinitions BtfError
struct_definitions mode info name id =
    if_ok (members_at info.types id) (λ members. definitions mode info name members)

-- ---- one map

-- the id of the type that a VAR holds
unfoldable pub variable : BtfType → Option ℕ
variable (Var _ id _) = Some id
variable _ = None

-- what an entry declares: a VAR, whose name is the map's, of a type that resolves to a STRUCT
unfoldable pub declared : ParseMode
    → TypeInfo
    → DataSecEntry
    → Result (List ℕ × MapDefinitions) BtfError
declared mode info entry =
    if_ok (type_at info.types entry.btf_type) (λ t.
    if_some (variable t)
    (λ id.
    if_ok (type_name info t) (λ name.
    if_ok (resolved info.types id) (λ struct_id.
    if_ok (struct_definitions mode info name struct_id) (λ d. Ok (name, d)))))
    (Err (unexpected_type t)))

abbrev pub map_at : MapDefinitions → ℕ → ℕ → Map
map_at d section symbol =
    Btf
    (record {
      def = d.def;
      inner_def = d.inner_def;
      section_index = section;
      symbol_index = symbol;
      bytes = [];
    })

-- the map of an entry, for whose name the section has a symbol
abbrev pub map_with_symbol : (List ℕ → Option ℕ)
    → ℕ
    → Result (List ℕ × MapDefinitions) BtfError
    → Result (List ℕ × Map) ParseError
map_with_symbol symbols section (Err e) = Err (errors.BtfError e)
map_with_symbol symbols section (Ok d) =
    if_some (symbols d.0) (λ y. Ok (d.0, map_at d.1 section y)) (Err (errors.SymbolNotFound d.0))

unfoldable pub entry_map : ParseMode → TypeInfo → (List ℕ → Option ℕ) → ℕ → DataSecEntry
    → Result (List ℕ × Map) ParseError
entry_map mode info symbols section entry =
    map_with_symbol symbols section (declared mode info entry)

-- ---- the maps of a section, DATASEC by DATASEC

abbrev pub entries_maps : ParseMode → TypeInfo → (List ℕ → Option ℕ) → ℕ → List DataSecEntry
    → List (List ℕ × Map)
entries_maps mode info symbols section entries =
    flat_map (λ entry. given (entry_map mode info symbols section entry)) entries

abbrev pub entries_fault : ParseMode → TypeInfo → (List ℕ → Option ℕ) → ℕ → List DataSecEntry
    → Option ParseError
entries_fault mode info symbols section entries =
    first_some (λ entry. fault_of (entry_map mode info symbols section entry)) entries

abbrev pub matched_maps : ParseMode → TypeInfo → (List ℕ → Option ℕ) → ℕ → Option DatasecMatch
    → List (List ℕ × Map)
matched_maps mode info symbols section (Some (Named entries)) =
    entries_maps mode info symbols section entries
matched_maps mode info symbols section _ = []

abbrev pub matched_maps_fault : ParseMode → TypeInfo → (List ℕ → Option ℕ) → ℕ → Option DatasecMatch
    → Option ParseError
matched_maps_fault mode info symbols section None = None
matched_maps_fault mode info symbols section (Some (UnreadableName e)) = Some (errors.BtfError e)
matched_maps_fault mode info symbols section (Some (Named entries)) =
    entries_fault mode info symbols section entries

-- those of one type, where it is a DATASEC of the section's name
unfoldable pub type_maps : ParseMode → TypeInfo → (List ℕ → Option ℕ) → ℕ → List ℕ → BtfType
    → List (List ℕ × Map)
type_maps mode info symbols section name t =
    matched_maps mode info symbols section (datasec_match info name t)

unfoldable pub type_maps_fault : ParseMode → TypeInfo → (List ℕ → Option ℕ) → ℕ → List ℕ → BtfType
    → Option ParseError
type_maps_fault mode info symbols section name t =
    matched_maps_fault mode info symbols section (datasec_match info name t)

-- Of a section with this index and name, the symbols of which have these indices.
abbrev pub btf_maps : ParseMode → TypeInfo → (List ℕ → Option ℕ) → ℕ → List ℕ → List (List ℕ × Map)
btf_maps mode info symbols section name =
    flat_map (type_maps mode info symbols section name) info.types

abbrev pub btf_maps_fault : ParseMode → TypeInfo → (List ℕ → Option ℕ) → ℕ → List ℕ
    → Option ParseError
btf_maps_fault mode info symbols section name =
    first_some (type_maps_fault mode info symbols section name) info.types
