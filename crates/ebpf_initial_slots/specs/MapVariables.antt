-- The variables of the section `.maps`, each of which declares a map (libbpf 1.5, libbpf.c:
-- bpf_object__init_user_btf_maps, btf_fixup_datasec, bpf_object__collect_map_relos).
use Rattle.std.specs.Prelude.{ℕ, ◌-◌, ◌/◌, ◌==◌, Bool, List, [], codes, length, slice_get, Option}
use Rattle.std.specs.Prelude.{Some, None, option_map, unwrap_or, if◌then◌else◌}
use Rattle.std.specs.FinMap.{get}
use Rattle.std.specs.List.{flat_map}
use Rattle.std.specs.Option.{option_and_then, option_map_or, option_to_list}
use Rattle.std.specs.Result.{result_ok}
use Rattle.ebpf_btf.specs.Steps.{resolved_type}
use Rattle.ebpf_btf.specs.Strings.{id_of_name, is_text, text_at}
use Rattle.ebpf_btf.specs.TypeInfo.{TypeInfo}
use Rattle.ebpf_btf.specs.Types.{bit_offset, size_word}
use Rattle.ebpf_btf.specs.declared.kind.BtfKind.TheVariants as kinds
use Rattle.ebpf_btf.specs.declared.members.BtfMember.{BtfMember}
use Rattle.ebpf_btf.specs.declared.members.DataSecEntry.{DataSecEntry}
use Rattle.ebpf_btf.specs.declared.types.BtfType.{BtfType}
use Rattle.ebpf_btf.specs.declared.types.BtfType.TheVariants.{DataSec, Struct, Var}
use Rattle.ebpf_initial_slots.specs.declared.variables.MapVariable.{MapVariable}
use Rattle.ebpf_model.specs.declared.symbol.Symbol.{Symbol}
use Rattle.ebpf_object.specs.declared.object.Object.{Object}
use Rattle.ebpf_parts.specs.declared.maps.either.BtfMap.{BtfMap}
use Rattle.ebpf_parts.specs.declared.maps.either.Map.{Map}
use Rattle.ebpf_parts.specs.declared.maps.either.Map.TheVariants.{Btf}

abbrev pub maps_section_name : List ℕ
maps_section_name = codes ".maps"

-- ---- the DATASEC

-- the first DATASEC `.maps`
abbrev pub maps_datasec : TypeInfo → Option BtfType
maps_datasec types =
    option_and_then (slice_get types.types) (id_of_name types maps_section_name kinds.DataSec)

-- its entries
unfoldable pub maps_entries : BtfType → List DataSecEntry
maps_entries (DataSec name size entries) = entries
maps_entries t = []

-- Compilers write the size 0 and offsets of 0. The addresses of the symbols are the offsets then.
abbrev pub lacks_offsets : BtfType → Bool
lacks_offsets t = unwrap_or (size_word t) 0 == 0

-- ---- `values`

-- the last member of a STRUCT
unfoldable pub last_member : BtfType → Option BtfMember
last_member (Struct name size flag members) = slice_get members (length members - 1)
last_member t = None

-- the offset of a member `values`, in bytes
abbrev pub values_at : TypeInfo → BtfType → BtfMember → Option ℕ
values_at types t m =
    if is_text (codes "values") (text_at types.strings m.name_offset)
    then Some (bit_offset t m / 8)
    else None

-- the offset of `values` in a type that ends in them; TYPEDEFs, CONST, VOLATILE, RESTRICT and
-- TYPE_TAGs are followed
unfoldable pub values_offset : TypeInfo → ℕ → Option ℕ
values_offset types id =
    option_and_then (λ t. option_and_then (values_at types t) (last_member t))
    (result_ok (resolved_type types.types id))

-- ---- variables

-- the offset of a VAR's name, and the id of its type
unfoldable pub name_and_type : BtfType → Option (ℕ × ℕ)
name_and_type (Var name type linkage) = Some (name, type)
name_and_type t = None

-- the VAR's name, and the id of its type
unfoldable pub named_variable : TypeInfo → ℕ → Option (List ℕ × ℕ)
named_variable types id =
    option_and_then
    (λ v. option_map (λ name. (name, v.1)) (result_ok (text_at types.strings v.0)))
    (option_and_then name_and_type (slice_get types.types id))

-- a map that the section with this index declares
abbrev pub declared_in : ℕ → Option Map → Option BtfMap
declared_in section (Some (Btf m)) = if m.section_index == section then Some m else None
declared_in section _ = None

-- the offset of a variable in the section
abbrev pub variable_offset : Bool → DataSecEntry → Option Symbol → ℕ
variable_offset unplaced entry symbol =
    if unplaced then option_map_or (λ s. s.address) symbol 0 else entry.offset

abbrev pub variable_of : Object → TypeInfo → Bool → DataSecEntry → List ℕ × ℕ → BtfMap → MapVariable
variable_of object types unplaced entry named m = record {
  name = named.0;
  offset = variable_offset unplaced entry (get object.symbol_table m.symbol_index);
  size = entry.size;
  map_type = m.def.map_type;
  key_size = m.def.key_size;
  values = values_offset types named.1;
}

-- the variable of an entry, where the section declares a map of its name
unfoldable pub map_variable : Object → TypeInfo → ℕ → Bool → DataSecEntry → Option MapVariable
map_variable object types section unplaced entry =
    option_and_then
    (λ named.
    option_map (variable_of object types unplaced entry named)
    (declared_in section (get object.maps named.0)))
    (named_variable types entry.btf_type)

abbrev pub variables_of : Object → TypeInfo → ℕ → BtfType → List MapVariable
variables_of object types section t =
    flat_map (λ entry. option_to_list (map_variable object types section (lacks_offsets t) entry))
    (maps_entries t)

abbrev pub variables_in : Object → ℕ → Option TypeInfo → List MapVariable
variables_in object section None = []
variables_in object section (Some types) =
    option_map_or (variables_of object types section) (maps_datasec types) []

-- those that declare the maps of the section with this index, in the order of the DATASEC's entries
abbrev pub map_variables : Object → ℕ → List MapVariable
map_variables object section = variables_in object section object.btf
