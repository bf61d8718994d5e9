-- The contents of a file: its tables, each put together from the sections in order, so that of two
-- entries with one key the later one counts; and its first fault, by the parse mode.
use Rattle.std.specs.FinMap.{FinMap, empty}
use Rattle.std.specs.List.{flat_map}
use Rattle.std.specs.Ordering.{nat_cmp}
use Rattle.std.specs.Prelude.{ℕ, List, Option, option_map}
use Rattle.ebpf_base.specs.Faults.{or_else, first_in, first_some}
use Rattle.ebpf_base.specs.Maps.{put_all, text_cmp, key_cmp}
use Rattle.ebpf_btf.specs.TypeInfo.{TypeInfo}
use Rattle.ebpf_elf.specs.Faults.{faults}
use Rattle.ebpf_elf.specs.Headers.{ei_data}
use Rattle.ebpf_elf.specs.Sections.{SectionOf}
use Rattle.ebpf_elf.specs.declared.relocation.ElfRelocation.{ElfRelocation}
use Rattle.ebpf_elf.specs.declared.section.SectionIndex.{SectionIndex}
use Rattle.ebpf_btf_ext.specs.ExtReading.{ExtInfo}
use Rattle.ebpf_model.specs.Symbols.{FunctionKey}
use Rattle.ebpf_model.specs.declared.function.Function.{Function}
use Rattle.ebpf_model.specs.declared.function.Program.{Program}
use Rattle.ebpf_parts.specs.Sections.{SectionValue, section_of, section_fault}
use Rattle.ebpf_parts.specs.declared.error.ParseError.{ParseError}
use Rattle.ebpf_parts.specs.declared.error.ParseError.TheVariants.{ElfError}
use Rattle.ebpf_parts.specs.declared.maps.either.Map.{Map}
use Rattle.ebpf_parts.specs.declared.parse_mode.ParseMode.{ParseMode}
use Rattle.ebpf_parts.specs.declared.parse_mode.ParseMode.TheVariants.{Strict}
use Rattle.ebpf_parsing.specs.FileTypes.{types_of_file, externs_of, file_externs_fault, ext_of}
use Rattle.ebpf_parsing.specs.FileTypes.{type_info_names, file_types_fault}
use Rattle.ebpf_parsing.specs.OfSection.{maps_in, programs_in, functions_in, relocations_in}
use Rattle.ebpf_parsing.specs.OfSection.{fault_in}
use Rattle.ebpf_parsing.specs.declared.file_contents.FileContents.{FileContents}
use Rattle.ebpf_parsing.specs.declared.object_tables.ObjectTables.{ObjectTables}
use Rattle.ebpf_sections.specs.LicenseAndVersion.{license_as, license_fault_as, kernel_version_of}
use Rattle.ebpf_sections.specs.LicenseAndVersion.{version_fault}
use Rattle.ebpf_sections.specs.Sections.{machine_fault_as, order_fault_as}
use Rattle.ebpf_sections.specs.Sections.{section_info_entry, other_sections}
use Rattle.ebpf_sections.specs.Sections.{object_sections}
use Rattle.ebpf_sections.specs.Symbols.{file_symbols, symbol_table, symbols_fault, SymbolValue}
use Rattle.ebpf_sections.specs.Symbols.{section_symbols}
use Rattle.ebpf_sections.specs.declared.metadata.FileMetadata.{FileMetadata}

-- ---- the sections of an object: all but those of type information

-- the symbols that a section has
abbrev pub symbols_at : List SymbolValue → SectionValue → List SymbolValue
symbols_at symbols s = section_symbols symbols s.index.0

abbrev pub own_symbols : List ℕ → SectionValue → List SymbolValue
own_symbols bytes s = symbols_at (file_symbols bytes) s

-- ---- the entries of each table, in order

unfoldable pub map_entries : ParseMode → Option TypeInfo → List ℕ → List (List ℕ × Map)
map_entries mode types bytes =
    flat_map (λ s. maps_in mode types s (own_symbols bytes s)) (object_sections bytes)

unfoldable pub program_entries : ParseMode → List ℕ → Option ℕ → List ℕ → List (List ℕ × Program)
program_entries mode license version bytes =
    flat_map (λ s. programs_in mode license version s (own_symbols bytes s)) (object_sections bytes)

unfoldable pub function_entries : Option ExtInfo → List ℕ → List (FunctionKey × Function)
function_entries ext bytes =
    flat_map (λ s. functions_in ext s (own_symbols bytes s)) (object_sections bytes)

unfoldable pub relocation_entries : List ℕ → List (ℕ × FinMap nat_cmp ElfRelocation)
relocation_entries bytes = flat_map relocations_in (object_sections bytes)

unfoldable pub name_entries : List ℕ → List (List ℕ × SectionIndex)
name_entries bytes = flat_map section_info_entry (object_sections bytes)

-- ---- the tables

unfoldable pub maps_as : ParseMode → List ℕ → FinMap text_cmp Map
maps_as mode bytes = put_all empty (map_entries mode (types_of_file bytes) bytes)

unfoldable pub programs_as : ParseMode → List ℕ → FinMap text_cmp Program
programs_as mode bytes =
    put_all empty (program_entries mode (license_as mode bytes) (kernel_version_of bytes) bytes)

unfoldable pub functions : List ℕ → FinMap key_cmp Function
functions bytes = put_all empty (function_entries (ext_of bytes) bytes)

-- the relocations of Text and Program sections, by section and offset
unfoldable pub relocation_tables : List ℕ → FinMap nat_cmp (FinMap nat_cmp ElfRelocation)
relocation_tables bytes = put_all empty (relocation_entries bytes)

-- the sections' indices by name; those of type information come first
unfoldable pub section_infos : List ℕ → FinMap text_cmp SectionIndex
section_infos bytes = put_all (type_info_names bytes) (name_entries bytes)

abbrev pub maps : List ℕ → FinMap text_cmp Map
maps bytes = maps_as Strict bytes

abbrev pub programs : List ℕ → FinMap text_cmp Program
programs bytes = programs_as Strict bytes

-- ---- the whole

-- what programs and functions carry of it
abbrev pub metadata_as : ParseMode → List ℕ → FileMetadata
metadata_as mode bytes = record {
  mode = mode;
  license = license_as mode bytes;
  kernel_version = kernel_version_of bytes;
  btf = types_of_file bytes;
  btf_ext = ext_of bytes;
}

-- what its sections give
abbrev pub tables_as : ParseMode → List ℕ → ObjectTables
tables_as mode bytes = record {
  maps = maps_as mode bytes;
  programs = programs_as mode bytes;
  functions = functions bytes;
  relocations = relocation_tables bytes;
  section_infos = section_infos bytes;
}

abbrev pub contents_as : ParseMode → List ℕ → FileContents
contents_as mode bytes = record {
  endianness = ei_data bytes;
  metadata = metadata_as mode bytes;
  externs = externs_of bytes;
  symbol_table = symbol_table (file_symbols bytes);
  object_tables = tables_as mode bytes;
}

-- ---- the first fault

-- of one section, beside the file's types
abbrev pub read_fault : ParseMode → Option TypeInfo → List ℕ → SectionOf → Option ParseError
read_fault mode types bytes s =
    or_else (section_fault s)
    (fault_in mode types (section_of s) (section_symbols (file_symbols bytes) s.index))

unfoldable pub sections_fault : ParseMode → Option TypeInfo → List ℕ → Option ParseError
sections_fault mode types bytes = first_some (read_fault mode types bytes) (other_sections bytes)

-- of a file, in the order of the steps: the file, its machine, code in the big-endian order, the
-- license and the version, the symbols, the type information, the externs, the sections
abbrev pub parse_fault_as : ParseMode → List ℕ → Option ParseError
parse_fault_as mode bytes =
    or_else (option_map ElfError (first_in (faults bytes)))
    (or_else (machine_fault_as mode bytes)
    (or_else (order_fault_as mode bytes)
    (or_else (license_fault_as mode bytes)
    (or_else (version_fault bytes)
    (or_else (symbols_fault bytes)
    (or_else (file_types_fault mode bytes)
    (or_else (file_externs_fault bytes)
    (sections_fault mode (types_of_file bytes) bytes))))))))

abbrev pub parse_fault : List ℕ → Option ParseError
parse_fault bytes = parse_fault_as Strict bytes
