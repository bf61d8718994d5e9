-- The numbers of the pinnings that BTF-defined maps ask for: 0 and 1 (libbpf 1.5, libbpf.c:
-- bpf_object__init_user_btf_maps, parse_btf_map_def; enum libbpf_pin_type). A map asks by a member
-- `pinning`, whose type points to an array: the number is the array's length.
use Rattle.std.specs.Prelude.{ℕ, List, [], codes, nat_lt, slice_get, Option, Some, None}
use Rattle.std.specs.Prelude.{unwrap_or, if◌then◌else◌}
use Rattle.std.specs.Option.{option_and_then}
use Rattle.std.specs.Result.{result_ok}
use Rattle.ebpf_base.specs.Faults.{first_some}
use Rattle.ebpf_btf.specs.Steps.{resolved_type}
use Rattle.ebpf_btf.specs.Strings.{id_of_name, is_text, text_at}
use Rattle.ebpf_btf.specs.TypeInfo.{TypeInfo}
use Rattle.ebpf_btf.specs.declared.kind.BtfKind.TheVariants as kinds
use Rattle.ebpf_btf.specs.declared.members.BtfMember.{BtfMember}
use Rattle.ebpf_btf.specs.declared.members.DataSecEntry.{DataSecEntry}
use Rattle.ebpf_btf.specs.declared.types.BtfType.{BtfType}
use Rattle.ebpf_btf.specs.declared.types.BtfType.TheVariants.{DataSec, Struct, Var}
use Rattle.ebpf_btf_decls.specs.MapMembers.{number}
use Rattle.ebpf_btf_maps.specs.declared.error.BtfMapError.{BtfMapError}
use Rattle.ebpf_btf_maps.specs.declared.error.BtfMapError.TheVariants.{UnknownPinning}

-- ---- one member

-- the number of a member `pinning`
abbrev pub pinning_number : TypeInfo → BtfMember → Option ℕ
pinning_number types m =
    if is_text (codes "pinning") (text_at types.strings m.name_offset)
    then result_ok (number types.types m.btf_type)
    else None

-- a name, empty where it can't be read
abbrev pub text_or_empty : TypeInfo → ℕ → List ℕ
text_or_empty types offset = unwrap_or (result_ok (text_at types.strings offset)) []

abbrev pub number_fault : List ℕ → Option ℕ → Option BtfMapError
number_fault name None = None
number_fault name (Some n) = if nat_lt n 2 then None else Some (UnknownPinning name n)

-- of a map by the offset of its name
abbrev pub member_fault : TypeInfo → ℕ → BtfMember → Option BtfMapError
member_fault types name m = number_fault (text_or_empty types name) (pinning_number types m)

-- ---- one map

unfoldable pub struct_members : BtfType → List BtfMember
struct_members (Struct name size flag members) = members
struct_members t = []

-- the offset of a VAR's name, and the id of its type
unfoldable pub name_and_type : BtfType → Option (ℕ × ℕ)
name_and_type (Var name type linkage) = Some (name, type)
name_and_type t = None

abbrev pub type_fault : TypeInfo → ℕ → Option BtfType → Option BtfMapError
type_fault types name None = None
type_fault types name (Some t) = first_some (member_fault types name) (struct_members t)

-- of a variable, whose type leads to a STRUCT
abbrev pub variable_fault : TypeInfo → ℕ × ℕ → Option BtfMapError
variable_fault types v = type_fault types v.0 (result_ok (resolved_type types.types v.1))

unfoldable pub entry_fault : TypeInfo → DataSecEntry → Option BtfMapError
entry_fault types entry =
    option_and_then (variable_fault types)
    (option_and_then name_and_type (slice_get types.types entry.btf_type))

-- ---- all maps

abbrev pub maps_section_name : List ℕ
maps_section_name = codes ".maps"

-- the first DATASEC `.maps`
abbrev pub maps_datasec : TypeInfo → Option BtfType
maps_datasec types =
    option_and_then (slice_get types.types) (id_of_name types maps_section_name kinds.DataSec)

unfoldable pub maps_entries : BtfType → List DataSecEntry
maps_entries (DataSec name size entries) = entries
maps_entries t = []

abbrev pub entries_fault : TypeInfo → BtfType → Option BtfMapError
entries_fault types t = first_some (entry_fault types) (maps_entries t)

-- the first entry, and its first member, that asks for another number
unfoldable pub pinning_fault : Option TypeInfo → Option BtfMapError
pinning_fault None = None
pinning_fault (Some types) = option_and_then (entries_fault types) (maps_datasec types)
