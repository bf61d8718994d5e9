-- The arena of an object, and the data of the variables in it (libbpf 1.5, libbpf.c:
-- bpf_object__elf_collect, bpf_object__init_user_btf_maps, init_arena_map_data).
--
-- A worked example. `.maps` declares the map `arena` of type 33 with `max_entries` 2. The section
-- 7, `.addr_space.1`, has 40 bytes. With pages of 4096 bytes the arena has room for 8192 bytes. So
-- its data are the 40 bytes, and its section is 7. With the maps pass a reference to a symbol at
-- offset 8 of section 7 gets source 2, the arena's descriptor, and 8 in the slot behind it.
use Rattle.std.specs.FinMap.{FinMap, entries, get, insert}
use Rattle.std.specs.List.{flat_map}
use Rattle.std.specs.Option.{option_map_or}
use Rattle.std.specs.Prelude.{ℕ, ◌*◌, ◌==◌, ◌&&◌, Bool, true, false, List, [], ◌∷◌, codes, fold}
use Rattle.std.specs.Prelude.{length, nat_lt, slice_get, not, option_map, Option, Some, None}
use Rattle.std.specs.Prelude.{Result, Ok, Err, if◌then◌else◌, bit_and}
use Rattle.ebpf_base.specs.Faults.{fault_of, first_in, first_of, if_ok, or_else}
use Rattle.ebpf_base.specs.Maps.{text_cmp}
use Rattle.ebpf_btf.specs.Next.{if_some}
use Rattle.ebpf_btf_maps.specs.Pinnings.{pinning_fault}
use Rattle.ebpf_btf_maps.specs.declared.arena.Arena.{Arena}
use Rattle.ebpf_btf_maps.specs.declared.arena.ArenaData.{ArenaData}
use Rattle.ebpf_btf_maps.specs.declared.error.BtfMapError.{BtfMapError}
use Rattle.ebpf_btf_maps.specs.declared.error.BtfMapError.TheVariants.{ElfError, SecondArena}
use Rattle.ebpf_btf_maps.specs.declared.error.BtfMapError.TheVariants.{NoArena, ArenaTooSmall}
use Rattle.ebpf_elf.specs.Faults.{faults}
use Rattle.ebpf_elf.specs.Names.{is_name}
use Rattle.ebpf_elf.specs.Sections.{SectionOf, header, sections, section_name, data_faults, data_of}
use Rattle.ebpf_elf.specs.declared.constants.TheConstants.{SHF_EXECINSTR, SHT_PROGBITS}
use Rattle.ebpf_object.specs.declared.object.Object.{Object}
use Rattle.ebpf_parts.specs.Maps.{max_entries_of}
use Rattle.ebpf_parts.specs.declared.maps.either.BtfMap.{BtfMap}
use Rattle.ebpf_parts.specs.declared.maps.either.Map.{Map}
use Rattle.ebpf_parts.specs.declared.maps.either.Map.TheVariants.{Legacy, Btf}

-- ---- the arenas: BTF-defined maps of type 33 (BPF_MAP_TYPE_ARENA)

abbrev pub arena_type : ℕ
arena_type = 33

abbrev pub is_arena : Map → Bool
is_arena (Legacy m) = false
is_arena (Btf m) = m.def.map_type == arena_type

abbrev pub named_arena_of : List ℕ → Map → Option (List ℕ × BtfMap)
named_arena_of name (Legacy m) = None
named_arena_of name (Btf m) = if m.def.map_type == arena_type then Some (name, m) else None

-- an arena, with its name
abbrev pub named_arena : List ℕ × Map → Option (List ℕ × BtfMap)
named_arena e = named_arena_of e.0 e.1

-- an arena that is lent
abbrev pub arena_row : Arena → List ℕ × BtfMap
arena_row a = (a.name.now, a.map.now)

abbrev pub arena_name : List ℕ × Map → List (List ℕ)
arena_name e = if is_arena e.1 then e.0 ∷ [] else []

-- their names, in byte order
abbrev pub arena_names : FinMap text_cmp Map → List (List ℕ)
arena_names maps = flat_map arena_name (entries maps)

-- ---- the section of the variables: `.addr_space.1`, with data that is no code

abbrev pub arena_section_name : List ℕ
arena_section_name = codes ".addr_space.1"

abbrev pub is_arena_section : SectionOf → Bool
is_arena_section s =
    is_name arena_section_name (section_name s)
    && (header s).sh_type == SHT_PROGBITS
    && bit_and (header s).sh_flags SHF_EXECINSTR == 0
    && nat_lt 0 (header s).sh_size

-- of several the last
abbrev pub last_arena_section : Option SectionOf → List SectionOf → Option SectionOf
last_arena_section found rest =
    fold (λ before s. if is_arena_section s then Some s else before) found rest

abbrev pub arena_section : List ℕ → Option SectionOf
arena_section file = last_arena_section None (sections file)

abbrev pub section_bytes : SectionOf → Result (List ℕ) BtfMapError
section_bytes s = if_some (first_of (data_faults s)) (λ e. Err (ElfError e)) (Ok (data_of s))

-- ---- the data of the arena

-- the number of its pages
abbrev pub pages : FinMap text_cmp Map → List ℕ → ℕ
pages maps name = option_map_or max_entries_of (get maps name) 0

-- bytes where the arena has room for them
abbrev pub within : ℕ → ℕ → List ℕ → ℕ → List ℕ → Result (Option ArenaData) BtfMapError
within page_size count name section bytes =
    if nat_lt (page_size * count) (length bytes)
    then Err (ArenaTooSmall name (length bytes) count)
    else Ok (Some (record { name = name; section = section; bytes = bytes }))

abbrev pub data_within : ℕ → FinMap text_cmp Map → List ℕ → SectionOf
    → Result (Option ArenaData) BtfMapError
data_within page_size maps name s =
    if_ok (section_bytes s) (λ bytes. within page_size (pages maps name) name s.index bytes)

-- of the first arena and the section, where they are
abbrev pub data_of_arena : ℕ → FinMap text_cmp Map → Option (List ℕ) → Option SectionOf
    → Result (Option ArenaData) BtfMapError
data_of_arena page_size maps name None = Ok None
data_of_arena page_size maps None (Some s) = Err NoArena
data_of_arena page_size maps (Some name) (Some s) = data_within page_size maps name s

-- a second arena is refused, with the section and without it
abbrev pub arena_data_in : List ℕ → ℕ → FinMap text_cmp Map → Result (Option ArenaData) BtfMapError
arena_data_in file page_size maps =
    if_some (slice_get (arena_names maps) 1)
    (λ second. Err (SecondArena second))
    (data_of_arena page_size maps (slice_get (arena_names maps) 0) (arena_section file))

unfoldable pub arena_data : List ℕ → ℕ → FinMap text_cmp Map
    → Result (Option ArenaData) BtfMapError
arena_data file page_size maps =
    if_some (first_in (faults file))
    (λ e. Err (ElfError e))
    (arena_data_in file page_size maps)

-- ---- the maps of an object, completed

-- a map with data of a section
abbrev pub with_data : Map → ℕ → List ℕ → Map
with_data (Legacy m) section bytes = Legacy m
with_data (Btf m) section bytes = Btf (record m { section_index = section; bytes = bytes })

abbrev pub with_arena_data : FinMap text_cmp Map → Option ArenaData → FinMap text_cmp Map
with_arena_data maps None = maps
with_arena_data maps (Some d) =
    option_map_or (λ m. insert maps d.name (with_data m d.section d.bytes)) (get maps d.name) maps

abbrev pub data_or_none : Result (Option ArenaData) BtfMapError → Option ArenaData
data_or_none (Ok d) = d
data_or_none (Err e) = None

abbrev pub completed_maps : List ℕ → ℕ → FinMap text_cmp Map → FinMap text_cmp Map
completed_maps file page_size maps =
    with_arena_data maps (data_or_none (arena_data file page_size maps))

-- the pinnings first, then the arena
abbrev pub completion_fault : List ℕ → ℕ → Object → Option BtfMapError
completion_fault file page_size object =
    or_else (pinning_fault object.btf) (fault_of (arena_data file page_size object.maps))
