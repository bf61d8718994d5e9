-- The maps of data sections, of sections of fixed structs, and of sections of declarations.
use Rattle.std.specs.FinMap.{get}
use Rattle.std.specs.Prelude.{ℕ, ◌^◌, not, List, [], ◌∷◌, Option, None, nat_lt, replicate, ◌+◌}
use Rattle.std.specs.Prelude.{length, map, Some, ◌==◌, if◌then◌else◌, slice_range}
use Rattle.ebpf_base.specs.Faults.{first_of, or_else, first_some}
use Rattle.ebpf_base.specs.Numbers.{number_at}
use Rattle.ebpf_base.specs.declared.endianness.Endianness.TheVariants.{Little}
use Rattle.ebpf_btf_decls.specs.Maps.{btf_maps, btf_maps_fault, TypesInMode}
use Rattle.ebpf_parts.specs.Sections.{SectionValue}
use Rattle.ebpf_parts.specs.declared.error.ParseError.{ParseError}
use Rattle.ebpf_parts.specs.declared.error.ParseError.TheVariants.{InvalidMapDefinition}
use Rattle.ebpf_parts.specs.declared.error.ParseError.TheVariants.{InvalidSymbol}
use Rattle.ebpf_parts.specs.declared.error.ParseError.TheVariants.{NoSymbolsForSection, NoBTF}
use Rattle.ebpf_parts.specs.declared.maps.definition.bpf_map_def.{bpf_map_def}
use Rattle.ebpf_parts.specs.declared.maps.either.Map.{Map}
use Rattle.ebpf_parts.specs.declared.maps.either.Map.TheVariants.{Legacy}
use Rattle.ebpf_parts.specs.declared.maps.definition.PinningType.{PinningType}
use Rattle.ebpf_parts.specs.declared.maps.definition.PinningType.TheVariants as pinned
use Rattle.ebpf_parts.specs.declared.section.EbpfSectionKind.{EbpfSectionKind}
use Rattle.ebpf_parts.specs.declared.section.EbpfSectionKind.TheVariants.{Rodata, Bss}
use Rattle.ebpf_sections.specs.Symbols.{SymbolValue, symbol_indices_by_name}

-- ---- the maps of data sections (libbpf's `.data`, `.rodata` and `.bss`)

-- an array (type 2) of one value, as large as the section, by a key of four bytes
abbrev pub data_definition : ℕ → ℕ → bpf_map_def
data_definition size flags = record {
  map_type = 2;
  key_size = 4;
  value_size = size;
  max_entries = 1;
  map_flags = flags;
  id = 0;
  pinning = pinned.None;
}

-- programs only read `.rodata` (BPF_F_RDONLY_PROG)
abbrev pub data_flags : EbpfSectionKind → ℕ
data_flags Rodata = 128
data_flags _ = 0

-- `.bss` begins as zeros, which the file has not
abbrev pub data_bytes : EbpfSectionKind → SectionValue → List ℕ
data_bytes Bss s = replicate s.size 0
data_bytes _ s = s.bytes

unfoldable pub data_map : SectionValue → Map
data_map s = Legacy (record {
  def = data_definition s.size (data_flags s.kind);
  inner_def = None;
  section_index = s.index.0;
  section_kind = s.kind;
  symbol_index = None;
  bytes = data_bytes s.kind s;
})

-- the map, by the section's name
abbrev pub data_maps : SectionValue → List (List ℕ × Map)
data_maps s = (s.name, data_map s) ∷ []

-- a size past 32 bits
unfoldable pub data_map_fault : SectionValue → Option ParseError
data_map_fault s = first_of ((not (nat_lt s.size (2 ^ 32)), InvalidMapDefinition s.name) ∷ [])

-- ---- the maps of a section `maps`: each symbol names a fixed struct of seven numbers (libbpf's
-- `struct bpf_map_def`, with the id and the pinning that loaders before it knew)

-- the bytes from the symbol's address on, as many as its size
abbrev pub struct_bytes : SectionValue → SymbolValue → List ℕ
struct_bytes s y = slice_range s.bytes y.address (y.address + y.size)

-- The number of four bytes from an offset of the struct on, little endian in each file. A struct
-- may end before its last two numbers; a byte that it lacks is zero.
unfoldable pub word_at : List ℕ → ℕ → ℕ
word_at bytes offset = number_at Little 4 bytes offset

-- 0 says no pinning, 1 pinning by name
abbrev pub legacy_pinning : ℕ → PinningType
legacy_pinning number = if number == 0 then pinned.None else pinned.ByName

unfoldable pub definition_of : List ℕ → bpf_map_def
definition_of bytes = record {
  map_type = word_at bytes 0;
  key_size = word_at bytes 4;
  value_size = word_at bytes 8;
  max_entries = word_at bytes 12;
  map_flags = word_at bytes 16;
  id = word_at bytes 20;
  pinning = legacy_pinning (word_at bytes 24);
}

-- the map, by the symbol's name
unfoldable pub legacy_map : SectionValue → SymbolValue → Map
legacy_map s y = Legacy (record {
  def = definition_of (struct_bytes s y);
  inner_def = None;
  section_index = s.index.0;
  section_kind = s.kind;
  symbol_index = Some y.index;
  bytes = [];
})

abbrev pub legacy_entry : SectionValue → SymbolValue → List ℕ × Map
legacy_entry s y = (y.name, legacy_map s y)

-- a range outside the data, a struct without its first five numbers, another pinning
unfoldable pub legacy_fault : SectionValue → SymbolValue → Option ParseError
legacy_fault s y = first_of (
    (nat_lt (length s.bytes) (y.address + y.size), InvalidSymbol y.index (Some y.name))
    ∷ (nat_lt y.size 20, InvalidMapDefinition y.name)
    ∷ (nat_lt 1 (word_at (struct_bytes s y) 24), InvalidMapDefinition y.name)
    ∷ [])

-- the maps of a section, by symbol, and the first fault
abbrev pub legacy_maps : SectionValue → List SymbolValue → List (List ℕ × Map)
legacy_maps s symbols = map (legacy_entry s) symbols

unfoldable pub legacy_maps_fault : SectionValue → List SymbolValue → Option ParseError
legacy_maps_fault s symbols =
    or_else (first_of ((length symbols == 0, NoSymbolsForSection s.name) ∷ []))
    (first_some (legacy_fault s) symbols)

-- ---- the BTF-defined maps of a section as `.maps` (libbpf's names)

-- by name; without types there are none
unfoldable pub btf_defined_maps : Option TypesInMode → SectionValue → List SymbolValue
    → List (List ℕ × Map)
btf_defined_maps None s symbols = []
btf_defined_maps (Some d) s symbols =
    btf_maps d.mode d.types (get (symbol_indices_by_name symbols)) s.index.0 s.name

-- no types, no symbol, then the faults of the maps
unfoldable pub btf_defined_maps_fault : Option TypesInMode → SectionValue → List SymbolValue
    → Option ParseError
btf_defined_maps_fault None s symbols = Some NoBTF
btf_defined_maps_fault (Some d) s symbols =
    or_else (first_of ((length symbols == 0, NoSymbolsForSection s.name) ∷ []))
    (btf_maps_fault d.mode d.types (get (symbol_indices_by_name symbols)) s.index.0 s.name)
