-- The tables while the sections of a file are read, one after the other, and the maps of data, the
-- last one of each name.
use Rattle.std.specs.FinMap.{FinMap, empty, get}
use Rattle.std.specs.List.{flat_map}
use Rattle.std.specs.Prelude.{ℕ, List, [], Option, if◌then◌else◌}
use Rattle.ebpf_base.specs.Maps.{put_all, text_cmp}
use Rattle.ebpf_btf.specs.TypeInfo.{TypeInfo}
use Rattle.ebpf_elf.specs.declared.section.SectionIndex.{SectionIndex}
use Rattle.ebpf_parts.specs.Sections.{SectionValue}
use Rattle.ebpf_parts.specs.declared.maps.either.Map.{Map}
use Rattle.ebpf_parts.specs.declared.parse_mode.ParseMode.{ParseMode}
use Rattle.ebpf_parts.specs.declared.section.EbpfSectionKind.{EbpfSectionKind}
use Rattle.ebpf_parts.specs.declared.section.EbpfSectionKind.TheVariants.{Maps, BtfMaps, Data}
use Rattle.ebpf_parts.specs.declared.section.EbpfSectionKind.TheVariants.{Rodata, Bss}
use Rattle.ebpf_parsing.specs.FileContents.{symbols_at, map_entries, program_entries}
use Rattle.ebpf_parsing.specs.FileContents.{function_entries, relocation_entries, name_entries}
use Rattle.ebpf_parsing.specs.Maps.{data_maps}
use Rattle.ebpf_parsing.specs.OfSection.{maps_in, programs_in, functions_in, relocations_in}
use Rattle.ebpf_parsing.specs.OfSection.{maps_by}
use Rattle.ebpf_parsing.specs.declared.object_tables.ObjectTables.{ObjectTables}
use Rattle.ebpf_sections.specs.Sections.{section_info_entry, is_index}
use Rattle.ebpf_sections.specs.Symbols.{SymbolValue}
use Rattle.ebpf_sections.specs.declared.metadata.FileMetadata.{FileMetadata}

-- ---- the tables while the sections of a file are read, one after the other

-- what one section adds
unfoldable pub added : FileMetadata → ObjectTables → SectionValue → List SymbolValue → ObjectTables
added metadata p s symbols = record {
  maps = put_all p.maps (maps_in metadata.mode metadata.btf s symbols);
  programs =
      put_all p.programs
      (programs_in metadata.mode metadata.license metadata.kernel_version s symbols);
  functions = put_all p.functions (functions_in metadata.btf_ext s symbols);
  relocations = put_all p.relocations (relocations_in s);
  section_infos = put_all p.section_infos (section_info_entry s);
}

-- what sections add, one after the other
abbrev pub all_added : FileMetadata → ObjectTables → List SymbolValue → List SectionValue
    → ObjectTables
all_added metadata p symbols rest = record {
  maps =
      put_all p.maps
      (flat_map (λ s. maps_in metadata.mode metadata.btf s (symbols_at symbols s)) rest);
  programs =
      put_all p.programs
      (flat_map
      (λ s.
      programs_in metadata.mode metadata.license metadata.kernel_version s
      (symbols_at symbols s)) rest);
  functions =
      put_all p.functions
      (flat_map (λ s. functions_in metadata.btf_ext s (symbols_at symbols s)) rest);
  relocations = put_all p.relocations (flat_map relocations_in rest);
  section_infos = put_all p.section_infos (flat_map section_info_entry rest);
}

-- none but the names that were met before
abbrev pub object_tables_from : FinMap text_cmp SectionIndex → ObjectTables
object_tables_from infos =
    record {
      maps = empty;
      programs = empty;
      functions = empty;
      relocations = empty;
      section_infos = infos;
    }

-- all of a file
abbrev pub object_tables_of : FileMetadata → FinMap text_cmp SectionIndex → List ℕ → ObjectTables
object_tables_of metadata infos bytes = record {
  maps = put_all empty (map_entries metadata.mode metadata.btf bytes);
  programs =
      put_all empty (program_entries metadata.mode metadata.license metadata.kernel_version bytes);
  functions = put_all empty (function_entries metadata.btf_ext bytes);
  relocations = put_all empty (relocation_entries bytes);
  section_infos = put_all infos (name_entries bytes);
}

-- ---- sections of data with one name, of which the map of the last one counts

-- the map of a section of data, where it is the last of its name
abbrev pub last_maps : FinMap text_cmp ℕ → SectionValue → List (List ℕ × Map)
last_maps last s = if is_index s.index.0 (get last s.name) then data_maps s else []

-- the maps that a section gives, where it is no section of data before the last of its name
abbrev pub put_by : EbpfSectionKind → FinMap text_cmp ℕ → ParseMode → Option TypeInfo → SectionValue
    → List SymbolValue → List (List ℕ × Map)
put_by Data last mode types s symbols = last_maps last s
put_by Rodata last mode types s symbols = last_maps last s
put_by Bss last mode types s symbols = last_maps last s
put_by Maps last mode types s symbols = maps_by Maps mode types s symbols
put_by BtfMaps last mode types s symbols = maps_by BtfMaps mode types s symbols
put_by _ last mode types s symbols = []

-- what a section adds, but for maps that others of its name replace
abbrev pub added_last : FinMap text_cmp ℕ → FileMetadata → ObjectTables → SectionValue
    → List SymbolValue → ObjectTables
added_last last metadata p s symbols =
    record (added metadata p s symbols)
    { maps = put_all p.maps (put_by s.kind last metadata.mode metadata.btf s symbols) }
