-- The maps, programs, functions and relocations that one section adds to an object, and its fault.
use Rattle.std.specs.FinMap.{FinMap}
use Rattle.std.specs.Ordering.{nat_cmp}
use Rattle.std.specs.Prelude.{ℕ, List, [], ◌∷◌, map, length, Option, None, ◌==◌}
use Rattle.ebpf_base.specs.Faults.{or_else, first_of}
use Rattle.ebpf_btf.specs.TypeInfo.{TypeInfo}
use Rattle.ebpf_btf_decls.specs.Maps.{types_in_mode}
use Rattle.ebpf_elf.specs.declared.relocation.ElfRelocation.{ElfRelocation}
use Rattle.ebpf_btf_ext.specs.ExtReading.{ExtInfo}
use Rattle.ebpf_model.specs.Symbols.{FunctionKey}
use Rattle.ebpf_model.specs.declared.function.Function.{Function}
use Rattle.ebpf_model.specs.declared.function.Program.{Program}
use Rattle.ebpf_parts.specs.ProgramTypes.{section_as, section_fault_as}
use Rattle.ebpf_parts.specs.Sections.{SectionValue}
use Rattle.ebpf_parts.specs.declared.error.ParseError.{ParseError}
use Rattle.ebpf_parts.specs.declared.error.ParseError.TheVariants.{NoSymbolsForSection}
use Rattle.ebpf_parts.specs.declared.maps.either.Map.{Map}
use Rattle.ebpf_parts.specs.declared.parse_mode.ParseMode.{ParseMode}
use Rattle.ebpf_parts.specs.declared.section.EbpfSectionKind.{EbpfSectionKind}
use Rattle.ebpf_parts.specs.declared.section.EbpfSectionKind.TheVariants.{Maps, BtfMaps, Data}
use Rattle.ebpf_parts.specs.declared.section.EbpfSectionKind.TheVariants.{Rodata, Bss, Text}
use Rattle.ebpf_parts.specs.declared.section.EbpfSectionKind.TheVariants.{Program as Programs}
use Rattle.ebpf_parsing.specs.Maps.{btf_defined_maps, btf_defined_maps_fault, data_maps}
use Rattle.ebpf_parsing.specs.Maps.{data_map_fault, legacy_maps, legacy_maps_fault}
use Rattle.ebpf_sections.specs.Programs.{with_key, programs_of, program_functions, programs_fault}
use Rattle.ebpf_sections.specs.Records.{FuncAndLineInfo, func_and_line_info_of}
use Rattle.ebpf_sections.specs.Relocations.{relocation_table_at}
use Rattle.ebpf_sections.specs.Symbols.{SymbolValue}
use Rattle.ebpf_sections.specs.Texts.{text_functions, text_fault}

-- the maps, by name
abbrev pub maps_by : EbpfSectionKind → ParseMode → Option TypeInfo → SectionValue → List SymbolValue
    → List (List ℕ × Map)
maps_by Data mode types s symbols = data_maps s
maps_by Rodata mode types s symbols = data_maps s
maps_by Bss mode types s symbols = data_maps s
maps_by Maps mode types s symbols = legacy_maps s symbols
maps_by BtfMaps mode types s symbols = btf_defined_maps (types_in_mode mode types) s symbols
maps_by _ mode types s symbols = []

unfoldable pub maps_in : ParseMode → Option TypeInfo → SectionValue → List SymbolValue
    → List (List ℕ × Map)
maps_in mode types s symbols = maps_by s.kind mode types s symbols

-- the programs, by name, each with the object's license and kernel version
abbrev pub programs_by : EbpfSectionKind → ParseMode → List ℕ → Option ℕ → SectionValue
    → List SymbolValue → List (List ℕ × Program)
programs_by Programs mode license version s symbols =
    programs_of license version s symbols (section_as mode s.name)
programs_by _ mode license version s symbols = []

unfoldable pub programs_in : ParseMode → List ℕ → Option ℕ → SectionValue → List SymbolValue
    → List (List ℕ × Program)
programs_in mode license version s symbols = programs_by s.kind mode license version s symbols

-- the functions, by section and address, each with what `.BTF.ext` says of it
abbrev pub functions_by : EbpfSectionKind → FuncAndLineInfo → SectionValue → List SymbolValue
    → List Function
functions_by Programs infos s symbols = program_functions infos s symbols
functions_by Text infos s symbols = text_functions infos s symbols
functions_by _ infos s symbols = []

unfoldable pub functions_in : Option ExtInfo → SectionValue → List SymbolValue
    → List (FunctionKey × Function)
functions_in ext s symbols =
    map with_key (functions_by s.kind (func_and_line_info_of ext s.name) s symbols)

-- the relocations, by section and offset
abbrev pub relocations_by : EbpfSectionKind → SectionValue → List (ℕ × FinMap nat_cmp ElfRelocation)
relocations_by Programs s = relocation_table_at s.index.0 s.relocations
relocations_by Text s = relocation_table_at s.index.0 s.relocations
relocations_by _ s = []

unfoldable pub relocations_in : SectionValue → List (ℕ × FinMap nat_cmp ElfRelocation)
relocations_in s = relocations_by s.kind s

-- the faults of a Program section: its name, no symbol, then the programs by symbol
unfoldable pub program_section_faults : ParseMode → SectionValue → List SymbolValue
    → Option ParseError
program_section_faults mode s symbols =
    or_else (section_fault_as mode s.name)
    (or_else (first_of ((length symbols == 0, NoSymbolsForSection s.name) ∷ []))
    (programs_fault s symbols))

-- the faults of the functions of a section of code
abbrev pub functions_fault : EbpfSectionKind → SectionValue → List SymbolValue → Option ParseError
functions_fault Programs s symbols = programs_fault s symbols
functions_fault Text s symbols = text_fault s symbols
functions_fault _ s symbols = None

abbrev pub fault_by : EbpfSectionKind → ParseMode → Option TypeInfo → SectionValue
    → List SymbolValue → Option ParseError
fault_by Programs mode types s symbols = program_section_faults mode s symbols
fault_by Text mode types s symbols = text_fault s symbols
fault_by Data mode types s symbols = data_map_fault s
fault_by Rodata mode types s symbols = data_map_fault s
fault_by Bss mode types s symbols = data_map_fault s
fault_by Maps mode types s symbols = legacy_maps_fault s symbols
fault_by BtfMaps mode types s symbols = btf_defined_maps_fault (types_in_mode mode types) s symbols
fault_by _ mode types s symbols = None

unfoldable pub fault_in : ParseMode → Option TypeInfo → SectionValue → List SymbolValue
    → Option ParseError
fault_in mode types s symbols = fault_by s.kind mode types s symbols
