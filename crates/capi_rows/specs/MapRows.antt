-- What C reads of maps. Numbers are the kernel's; 0 says that there is none.
use Rattle.std.specs.Prelude.{ℕ, List, Option, Some, None, length, is_some}
use Rattle.ebpf_btf.specs.TypeInfo.{TypeInfo}
use Rattle.ebpf_load_info.specs.MapTypeIds.{map_type_ids, no_type_ids}
use Rattle.ebpf_load_info.specs.declared.map_type_ids.MapTypeIds.{MapTypeIds}
use Rattle.ebpf_parts.specs.Maps.{map_type_of, key_size_of, value_size_of, max_entries_of}
use Rattle.ebpf_parts.specs.Maps.{map_flags_of, map_extra_of, pinning_of, bytes_of}
use Rattle.ebpf_parts.specs.Maps.{section_index_of, section_kind_of, inner_of}
use Rattle.ebpf_parts.specs.declared.maps.either.Map.{Map}
use Rattle.ebpf_parts.specs.declared.maps.definition.PinningType.{PinningType}
use Rattle.ebpf_parts.specs.declared.maps.definition.PinningType.TheVariants as pinned
use Rattle.ebpf_parts.specs.declared.section.EbpfSectionKind.{EbpfSectionKind}
use Rattle.ebpf_parts.specs.declared.section.EbpfSectionKind.TheVariants.{Undefined, Maps, BtfMaps}
use Rattle.ebpf_parts.specs.declared.section.EbpfSectionKind.TheVariants.{Program, Data, Rodata}
use Rattle.ebpf_parts.specs.declared.section.EbpfSectionKind.TheVariants.{Bss, Text, BtfExt}
use Rattle.ebpf_parts.specs.declared.section.EbpfSectionKind.TheVariants.{License, Version}
use Rattle.ebpf_parts.specs.declared.section.EbpfSectionKind.TheVariants as kind
use Rattle.capi_rows.specs.Refusals.{flag}
use Rattle.capi_rows.specs.declared.maps.ebpf_map.{ebpf_map}
use Rattle.capi_rows.specs.declared.maps.ebpf_map_shape.{ebpf_map_shape}

abbrev pub pinning_number : PinningType → ℕ
pinning_number pinned.None = 0
pinning_number pinned.ByName = 1

-- the kinds in the order in which the library has them
abbrev pub section_kind_number : EbpfSectionKind → ℕ
section_kind_number Undefined = 0
section_kind_number Maps = 1
section_kind_number BtfMaps = 2
section_kind_number Program = 3
section_kind_number Data = 4
section_kind_number Rodata = 5
section_kind_number Bss = 6
section_kind_number Text = 7
section_kind_number kind.Btf = 8
section_kind_number BtfExt = 9
section_kind_number License = 10
section_kind_number Version = 11

-- the ids of the types that a map of a name is created with; none where its object has no types
abbrev pub type_ids_of : Option TypeInfo → List ℕ → Map → MapTypeIds
type_ids_of None name m = no_type_ids
type_ids_of (Some types) name m = map_type_ids name m types

-- a map that is created with types of these ids
abbrev pub shape_of : Map → MapTypeIds → ebpf_map_shape
shape_of m ids = record {
  extra = map_extra_of m;
  type_ = map_type_of m;
  key_size = key_size_of m;
  value_size = value_size_of m;
  max_entries = max_entries_of m;
  flags = map_flags_of m;
  pinning = pinning_number (pinning_of m);
  key_type_id = ids.key;
  value_type_id = ids.value;
}

abbrev pub no_shape : ebpf_map_shape
no_shape = record {
  extra = 0;
  type_ = 0;
  key_size = 0;
  value_size = 0;
  max_entries = 0;
  flags = 0;
  pinning = 0;
  key_type_id = 0;
  value_type_id = 0;
}

-- those of an inner map are found by the same types, and by the name of the outer one
abbrev pub shape_if : Option TypeInfo → List ℕ → Option Map → ebpf_map_shape
shape_if types name None = no_shape
shape_if types name (Some m) = shape_of m (type_ids_of types name m)

-- the row of a map of a name that begins at an offset of the text
abbrev pub map_row : Option TypeInfo → List ℕ → Map → ℕ → ebpf_map
map_row types name m name_at = record {
  name_at = name_at;
  name_len = length name;
  section = section_index_of m;
  data_len = length (bytes_of m);
  section_kind = section_kind_number (section_kind_of m);
  has_inner = flag (is_some (inner_of m));
  shape = shape_of m (type_ids_of types name m);
  inner = shape_if types name (inner_of m);
}
