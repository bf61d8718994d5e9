-- The fields of a map, whichever way it is declared, the map with another value in a field, and the
-- map types by their numbers (the kernel's include/uapi/linux/bpf.h).
use Rattle.std.specs.Prelude.{ℕ, List, [], Option, Some, None, ◌==◌, option_map, if◌then◌else◌, ◌∷◌}
use Rattle.std.specs.Prelude.{Result, Ok, Err}
use Rattle.std.specs.Prelude.{codes}
use Rattle.ebpf_parts.specs.declared.maps.either.BtfMap.{BtfMap}
use Rattle.ebpf_parts.specs.declared.maps.definition.BtfMapDef.{BtfMapDef}
use Rattle.ebpf_parts.specs.declared.maps.definition.bpf_map_def.{bpf_map_def}
use Rattle.ebpf_parts.specs.declared.maps.either.Map.{Map}
use Rattle.ebpf_parts.specs.declared.maps.either.Map.TheVariants.{Legacy, Btf}
use Rattle.ebpf_parts.specs.declared.maps.either.bpf_map_info.{bpf_map_info}
use Rattle.ebpf_parts.specs.declared.maps.either.LegacyMap.{LegacyMap}
use Rattle.ebpf_parts.specs.declared.maps.map_type.bpf_map_type.{bpf_map_type}
use Rattle.ebpf_parts.specs.declared.maps.map_type.bpf_map_type.TheVariants as types
use Rattle.ebpf_parts.specs.declared.maps.definition.PinningError.{PinningError}
use Rattle.ebpf_parts.specs.declared.maps.definition.PinningError.TheVariants.{Unsupported}
use Rattle.ebpf_parts.specs.declared.maps.definition.PinningType.{PinningType}
use Rattle.ebpf_parts.specs.declared.maps.definition.PinningType.TheVariants as pinned
use Rattle.ebpf_parts.specs.declared.section.EbpfSectionKind.{EbpfSectionKind}
use Rattle.ebpf_parts.specs.declared.section.EbpfSectionKind.TheVariants.{Undefined, BtfMaps}

abbrev pub map_type_of : Map → ℕ
map_type_of (Legacy m) = m.def.map_type
map_type_of (Btf m) = m.def.map_type

abbrev pub key_size_of : Map → ℕ
key_size_of (Legacy m) = m.def.key_size
key_size_of (Btf m) = m.def.key_size

abbrev pub value_size_of : Map → ℕ
value_size_of (Legacy m) = m.def.value_size
value_size_of (Btf m) = m.def.value_size

abbrev pub max_entries_of : Map → ℕ
max_entries_of (Legacy m) = m.def.max_entries
max_entries_of (Btf m) = m.def.max_entries

abbrev pub map_flags_of : Map → ℕ
map_flags_of (Legacy m) = m.def.map_flags
map_flags_of (Btf m) = m.def.map_flags

-- a fixed struct has no room for it
abbrev pub map_extra_of : Map → ℕ
map_extra_of (Legacy m) = 0
map_extra_of (Btf m) = m.def.map_extra

abbrev pub pinning_of : Map → PinningType
pinning_of (Legacy m) = m.def.pinning
pinning_of (Btf m) = m.def.pinning

abbrev pub bytes_of : Map → List ℕ
bytes_of (Legacy m) = m.bytes
bytes_of (Btf m) = m.bytes

abbrev pub section_index_of : Map → ℕ
section_index_of (Legacy m) = m.section_index
section_index_of (Btf m) = m.section_index

abbrev pub section_kind_of : Map → EbpfSectionKind
section_kind_of (Legacy m) = m.section_kind
section_kind_of (Btf m) = BtfMaps

abbrev pub symbol_index_of : Map → Option ℕ
symbol_index_of (Legacy m) = m.symbol_index
symbol_index_of (Btf m) = Some m.symbol_index

-- the map with another value size
abbrev pub with_value_size : Map → ℕ → Map
with_value_size (Legacy m) size = Legacy (record m { def = record m.def { value_size = size } })
with_value_size (Btf m) size = Btf (record m { def = record m.def { value_size = size } })

-- the map with another number of entries
abbrev pub with_max_entries : Map → ℕ → Map
with_max_entries (Legacy m) entries =
    Legacy (record m { def = record m.def { max_entries = entries } })
with_max_entries (Btf m) entries = Btf (record m { def = record m.def { max_entries = entries } })

-- the map with other data
abbrev pub with_bytes : Map → List ℕ → Map
with_bytes (Legacy m) bytes = Legacy (record m { bytes = bytes })
with_bytes (Btf m) bytes = Btf (record m { bytes = bytes })

-- a map that no section declares, without data and without an inner map
abbrev pub undeclared_legacy_map : bpf_map_def → LegacyMap
undeclared_legacy_map def = record {
  def = def;
  inner_def = None;
  section_index = 0;
  section_kind = Undefined;
  symbol_index = None;
  bytes = [];
}

abbrev pub undeclared_btf_map : BtfMapDef → BtfMap
undeclared_btf_map def = record {
  def = def;
  inner_def = None;
  section_index = 0;
  symbol_index = 0;
  bytes = [];
}

-- the map that a map of maps holds
abbrev pub inner_of : Map → Option Map
inner_of (Legacy m) = option_map (λ def. Legacy (undeclared_legacy_map def)) m.inner_def
inner_of (Btf m) = option_map (λ def. Btf (undeclared_btf_map def)) m.inner_def

-- A map as the kernel reports it: one whose value has a type is a map with type information, since
-- a map without keys, as a Bloom filter, has no type of its key.
abbrev pub map_from_info : bpf_map_info → PinningType → Map
map_from_info info pinned =
    if info.btf_value_type_id == 0
    then Legacy (undeclared_legacy_map (record {
      map_type = info.type_;
      key_size = info.key_size;
      value_size = info.value_size;
      max_entries = info.max_entries;
      map_flags = info.map_flags;
      id = info.id;
      pinning = pinned;
    }))
    else Btf (undeclared_btf_map (record {
      map_type = info.type_;
      key_size = info.key_size;
      value_size = info.value_size;
      max_entries = info.max_entries;
      map_flags = info.map_flags;
      map_extra = info.map_extra;
      pinning = pinned;
      btf_key_type_id = info.btf_key_type_id;
      btf_value_type_id = info.btf_value_type_id;
    }))

-- the map of plain numbers
abbrev pub map_from_params : ℕ → ℕ → ℕ → ℕ → ℕ → Map
map_from_params map_type key_size value_size max_entries flags =
    Legacy (undeclared_legacy_map (record {
      map_type = map_type;
      key_size = key_size;
      value_size = value_size;
      max_entries = max_entries;
      map_flags = flags;
      id = 0;
      pinning = pinned.None;
    }))

-- ---- the types of maps in the order of their numbers, from 0 on (the kernel's
-- include/uapi/linux/bpf.h, enum bpf_map_type)

unfoldable pub map_types : List bpf_map_type
map_types =
    types.BPF_MAP_TYPE_UNSPEC
    ∷ types.BPF_MAP_TYPE_HASH
    ∷ types.BPF_MAP_TYPE_ARRAY
    ∷ types.BPF_MAP_TYPE_PROG_ARRAY
    ∷ types.BPF_MAP_TYPE_PERF_EVENT_ARRAY
    ∷ types.BPF_MAP_TYPE_PERCPU_HASH
    ∷ types.BPF_MAP_TYPE_PERCPU_ARRAY
    ∷ types.BPF_MAP_TYPE_STACK_TRACE
    ∷ types.BPF_MAP_TYPE_CGROUP_ARRAY
    ∷ types.BPF_MAP_TYPE_LRU_HASH
    ∷ types.BPF_MAP_TYPE_LRU_PERCPU_HASH
    ∷ types.BPF_MAP_TYPE_LPM_TRIE
    ∷ types.BPF_MAP_TYPE_ARRAY_OF_MAPS
    ∷ types.BPF_MAP_TYPE_HASH_OF_MAPS
    ∷ types.BPF_MAP_TYPE_DEVMAP
    ∷ types.BPF_MAP_TYPE_SOCKMAP
    ∷ types.BPF_MAP_TYPE_CPUMAP
    ∷ types.BPF_MAP_TYPE_XSKMAP
    ∷ types.BPF_MAP_TYPE_SOCKHASH
    ∷ types.BPF_MAP_TYPE_CGROUP_STORAGE_DEPRECATED
    ∷ types.BPF_MAP_TYPE_REUSEPORT_SOCKARRAY
    ∷ types.BPF_MAP_TYPE_PERCPU_CGROUP_STORAGE_DEPRECATED
    ∷ types.BPF_MAP_TYPE_QUEUE
    ∷ types.BPF_MAP_TYPE_STACK
    ∷ types.BPF_MAP_TYPE_SK_STORAGE
    ∷ types.BPF_MAP_TYPE_DEVMAP_HASH
    ∷ types.BPF_MAP_TYPE_STRUCT_OPS
    ∷ types.BPF_MAP_TYPE_RINGBUF
    ∷ types.BPF_MAP_TYPE_INODE_STORAGE
    ∷ types.BPF_MAP_TYPE_TASK_STORAGE
    ∷ types.BPF_MAP_TYPE_BLOOM_FILTER
    ∷ types.BPF_MAP_TYPE_USER_RINGBUF
    ∷ types.BPF_MAP_TYPE_CGRP_STORAGE
    ∷ types.BPF_MAP_TYPE_ARENA
    ∷ types.BPF_MAP_TYPE_INSN_ARRAY
    ∷ []

-- ---- pinning by its number (libbpf's enum libbpf_pin_type)

abbrev pub pinning_type : ℕ → Result PinningType PinningError
pinning_type number =
    if number == 0 then Ok pinned.None else
    if number == 1 then Ok pinned.ByName else
    Err (Unsupported number)

-- the name of a type of maps, as bpftool prints it
unfoldable pub map_type_name : bpf_map_type → List ℕ
map_type_name types.BPF_MAP_TYPE_UNSPEC = codes "unspec"
map_type_name types.BPF_MAP_TYPE_HASH = codes "hash"
map_type_name types.BPF_MAP_TYPE_ARRAY = codes "array"
map_type_name types.BPF_MAP_TYPE_PROG_ARRAY = codes "prog_array"
map_type_name types.BPF_MAP_TYPE_PERF_EVENT_ARRAY = codes "perf_event_array"
map_type_name types.BPF_MAP_TYPE_PERCPU_HASH = codes "percpu_hash"
map_type_name types.BPF_MAP_TYPE_PERCPU_ARRAY = codes "percpu_array"
map_type_name types.BPF_MAP_TYPE_STACK_TRACE = codes "stack_trace"
map_type_name types.BPF_MAP_TYPE_CGROUP_ARRAY = codes "cgroup_array"
map_type_name types.BPF_MAP_TYPE_LRU_HASH = codes "lru_hash"
map_type_name types.BPF_MAP_TYPE_LRU_PERCPU_HASH = codes "lru_percpu_hash"
map_type_name types.BPF_MAP_TYPE_LPM_TRIE = codes "lpm_trie"
map_type_name types.BPF_MAP_TYPE_ARRAY_OF_MAPS = codes "array_of_maps"
map_type_name types.BPF_MAP_TYPE_HASH_OF_MAPS = codes "hash_of_maps"
map_type_name types.BPF_MAP_TYPE_DEVMAP = codes "devmap"
map_type_name types.BPF_MAP_TYPE_SOCKMAP = codes "sockmap"
map_type_name types.BPF_MAP_TYPE_CPUMAP = codes "cpumap"
map_type_name types.BPF_MAP_TYPE_XSKMAP = codes "xskmap"
map_type_name types.BPF_MAP_TYPE_SOCKHASH = codes "sockhash"
map_type_name types.BPF_MAP_TYPE_CGROUP_STORAGE_DEPRECATED = codes "cgroup_storage"
map_type_name types.BPF_MAP_TYPE_REUSEPORT_SOCKARRAY = codes "reuseport_sockarray"
map_type_name types.BPF_MAP_TYPE_PERCPU_CGROUP_STORAGE_DEPRECATED = codes "percpu_cgroup_storage"
map_type_name types.BPF_MAP_TYPE_QUEUE = codes "queue"
map_type_name types.BPF_MAP_TYPE_STACK = codes "stack"
map_type_name types.BPF_MAP_TYPE_SK_STORAGE = codes "sk_storage"
map_type_name types.BPF_MAP_TYPE_DEVMAP_HASH = codes "devmap_hash"
map_type_name types.BPF_MAP_TYPE_STRUCT_OPS = codes "struct_ops"
map_type_name types.BPF_MAP_TYPE_RINGBUF = codes "ringbuf"
map_type_name types.BPF_MAP_TYPE_INODE_STORAGE = codes "inode_storage"
map_type_name types.BPF_MAP_TYPE_TASK_STORAGE = codes "task_storage"
map_type_name types.BPF_MAP_TYPE_BLOOM_FILTER = codes "bloom_filter"
map_type_name types.BPF_MAP_TYPE_USER_RINGBUF = codes "user_ringbuf"
map_type_name types.BPF_MAP_TYPE_CGRP_STORAGE = codes "cgrp_storage"
map_type_name types.BPF_MAP_TYPE_ARENA = codes "arena"
map_type_name types.BPF_MAP_TYPE_INSN_ARRAY = codes "insn_array"
