-- The types of keys and values with which maps are created (BPF_MAP_CREATE: btf_key_type_id and
-- btf_value_type_id; libbpf 1.5, libbpf.c: bpf_object__create_map, bpf_map_find_btf_info,
-- bpf_map__set_value_size).
use Rattle.std.specs.Prelude.{ℕ, Bool, true, false, ◌==◌, ◌&&◌, ◌||◌, nat_eq, List, [], ◌∷◌, length}
use Rattle.std.specs.Prelude.{slice_get, unwrap_or, if◌then◌else◌}
use Rattle.std.specs.List.{list_any}
use Rattle.std.specs.Option.{option_and_then, option_map_or}
use Rattle.ebpf_btf.specs.Strings.{id_of_name}
use Rattle.ebpf_btf.specs.TypeInfo.{TypeInfo}
use Rattle.ebpf_btf.specs.Types.{size_word}
use Rattle.ebpf_btf.specs.declared.kind.BtfKind.TheVariants as kinds
use Rattle.ebpf_parts.specs.Maps.{map_type_of}
use Rattle.ebpf_parts.specs.declared.maps.either.Map.{Map}
use Rattle.ebpf_parts.specs.declared.maps.either.Map.TheVariants.{Legacy, Btf}
use Rattle.ebpf_parts.specs.declared.maps.either.LegacyMap.{LegacyMap}
use Rattle.ebpf_parts.specs.declared.section.EbpfSectionKind.{EbpfSectionKind}
use Rattle.ebpf_parts.specs.declared.section.EbpfSectionKind.TheVariants.{Data, Rodata, Bss}
use Rattle.ebpf_load_info.specs.declared.map_type_ids.MapTypeIds.{MapTypeIds}

abbrev pub no_type_ids : MapTypeIds
no_type_ids = record { key = 0; value = 0 }

-- ---- the types of maps

-- those that the kernel creates without types of keys and values
unfoldable pub untyped_maps : List ℕ
untyped_maps =
    4  -- BPF_MAP_TYPE_PERF_EVENT_ARRAY
    ∷ 7  -- BPF_MAP_TYPE_STACK_TRACE
    ∷ 8  -- BPF_MAP_TYPE_CGROUP_ARRAY
    ∷ 12  -- BPF_MAP_TYPE_ARRAY_OF_MAPS
    ∷ 13  -- BPF_MAP_TYPE_HASH_OF_MAPS
    ∷ 14  -- BPF_MAP_TYPE_DEVMAP
    ∷ 15  -- BPF_MAP_TYPE_SOCKMAP
    ∷ 16  -- BPF_MAP_TYPE_CPUMAP
    ∷ 17  -- BPF_MAP_TYPE_XSKMAP
    ∷ 18  -- BPF_MAP_TYPE_SOCKHASH
    ∷ 22  -- BPF_MAP_TYPE_QUEUE
    ∷ 23  -- BPF_MAP_TYPE_STACK
    ∷ 25  -- BPF_MAP_TYPE_DEVMAP_HASH
    ∷ 33  -- BPF_MAP_TYPE_ARENA
    ∷ []

-- BPF_MAP_TYPE_STRUCT_OPS, whose value has a type of the kernel
abbrev pub struct_ops : ℕ
struct_ops = 26

-- what a type of maps takes of some ids
abbrev pub ids_of_map_type : ℕ → MapTypeIds → MapTypeIds
ids_of_map_type map_type ids =
    if list_any (λ t. nat_eq t map_type) untyped_maps then no_type_ids
    else if map_type == struct_ops then record ids { value = 0 }
    else ids

-- ---- maps of data sections

unfoldable pub has_value_type : EbpfSectionKind → Bool
has_value_type Data = true
has_value_type Rodata = true
has_value_type Bss = true
has_value_type _ = false

-- the size that a type states, 0 where it states none
abbrev pub stated_size : TypeInfo → ℕ → ℕ
stated_size types id = unwrap_or (option_and_then size_word (slice_get types.types id)) 0

-- Whether a DATASEC is the type of a map's value: the value is as large as the section's data, and
-- as the DATASEC says.
-- Compilers write size 0 there, which loaders replace.
abbrev pub is_type_of : TypeInfo → LegacyMap → ℕ → Bool
is_type_of types m id =
    m.def.value_size == length m.bytes
    && (stated_size types id == 0 || stated_size types id == m.def.value_size)

abbrev pub data_type : TypeInfo → List ℕ → LegacyMap → ℕ
data_type types name m =
    option_map_or (λ id. if is_type_of types m id then id else 0)
    (id_of_name types name kinds.DataSec) 0

-- ---- all maps

-- the ids that the definition of a map states, or that the map of a data section has by its name
abbrev pub stated_ids : TypeInfo → List ℕ → Map → MapTypeIds
stated_ids types name (Btf m) =
    record { key = m.def.btf_key_type_id; value = m.def.btf_value_type_id }
stated_ids types name (Legacy m) =
    if has_value_type m.section_kind
    then record { key = 0; value = data_type types name m }
    else no_type_ids

-- the ids that a map of this name is created with
unfoldable pub map_type_ids : List ℕ → Map → TypeInfo → MapTypeIds
map_type_ids name m types = ids_of_map_type (map_type_of m) (stated_ids types name m)
