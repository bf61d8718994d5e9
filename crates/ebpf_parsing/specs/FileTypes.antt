-- The types of a file, its info entries and CO-RE relocations, and its externs: its sections `.BTF`
-- and `.BTF.ext` (libbpf's names).
use Rattle.std.specs.FinMap.{FinMap, empty}
use Rattle.std.specs.Prelude.{ℕ, Bool, true, false, not, ◌==◌, length, List, [], Option, Some, None}
use Rattle.std.specs.Prelude.{Result, codes, option_map}
use Rattle.std.specs.Result.{result_ok}
use Rattle.ebpf_base.specs.Faults.{or_else, fault_of}
use Rattle.ebpf_base.specs.Maps.{put_all, text_cmp}
use Rattle.ebpf_base.specs.declared.endianness.Endianness.{Endianness}
use Rattle.ebpf_btf.specs.Reading.{type_info_of}
use Rattle.ebpf_btf.specs.TypeInfo.{TypeInfo}
use Rattle.ebpf_btf.specs.declared.error.BtfError.{BtfError as TypeError}
use Rattle.ebpf_btf_decls.specs.Externs.{extern_types, externs, extern_declarations_fault}
use Rattle.ebpf_elf.specs.Headers.{ei_data}
use Rattle.ebpf_elf.specs.Sections.{SectionOf}
use Rattle.ebpf_elf.specs.declared.section.SectionIndex.{SectionIndex}
use Rattle.ebpf_btf_ext.specs.ExtReading.{ExtInfo, read_ext}
use Rattle.ebpf_model.specs.declared.symbol.ExternDesc.{ExternDesc}
use Rattle.ebpf_parts.specs.Sections.{section_of, section_fault}
use Rattle.ebpf_parts.specs.declared.error.ParseError.{ParseError}
use Rattle.ebpf_parts.specs.declared.error.ParseError.TheVariants.{BtfError}
use Rattle.ebpf_parts.specs.declared.parse_mode.ParseMode.{ParseMode}
use Rattle.ebpf_parts.specs.declared.parse_mode.ParseMode.TheVariants.{Strict, Lenient}
use Rattle.ebpf_sections.specs.Sections.{section_info_entry, first_section_named}
use Rattle.ebpf_sections.specs.Symbols.{file_symbols, SymbolValue, weak_named}

-- ---- the type information of a file, and its records on instructions: its sections `.BTF` and
-- `.BTF.ext` (libbpf's names)

-- a section's index, by its name
abbrev pub names_in : Option SectionOf → List (List ℕ × SectionIndex)
names_in None = []
names_in (Some s) = section_info_entry (section_of s)

-- ---- types

abbrev pub read_types : Endianness → SectionOf → Result TypeInfo TypeError
read_types o s = type_info_of o (section_of s).bytes

abbrev pub btf_in : Endianness → Option SectionOf → Option TypeInfo
btf_in o None = None
btf_in o (Some s) = result_ok (read_types o s)

abbrev pub types_fault_in : Endianness → Option SectionOf → Option ParseError
types_fault_in o None = None
types_fault_in o (Some s) =
    or_else (section_fault s) (option_map BtfError (fault_of (read_types o s)))

-- ---- the records of `.BTF.ext`, their names in the strings of the types

-- whether CO-RE relocations of kind 12 (type matches) are read; strict parsing refuses them
unfoldable pub reads_type_matches : ParseMode → Bool
reads_type_matches Strict = false
reads_type_matches Lenient = true

abbrev pub read_ext_section : Bool → Endianness → TypeInfo → SectionOf → Result ExtInfo TypeError
read_ext_section type_matches o types s =
    read_ext type_matches o (section_of s).bytes types.strings

-- The contents are those that lenient parsing reads. What strict parsing does not refuse, it reads
-- in the same way.

abbrev pub ext_in : Endianness → TypeInfo → Option SectionOf → Option ExtInfo
ext_in o types None = None
ext_in o types (Some s) = result_ok (read_ext_section true o types s)

abbrev pub ext_fault_in : ParseMode → Endianness → TypeInfo → Option SectionOf → Option ParseError
ext_fault_in mode o types None = None
ext_fault_in mode o types (Some s) =
    or_else (section_fault s)
    (option_map BtfError (fault_of (read_ext_section (reads_type_matches mode) o types s)))

-- ---- of a file: the first section of each name, `.BTF.ext` only beside types

abbrev pub types_section : List ℕ → Option SectionOf
types_section bytes = first_section_named (codes ".BTF") bytes

abbrev pub ext_section : List ℕ → Option SectionOf
ext_section bytes = first_section_named (codes ".BTF.ext") bytes

unfoldable pub btf_of : List ℕ → Option TypeInfo
btf_of bytes = btf_in (ei_data bytes) (types_section bytes)

unfoldable pub btf_fault : List ℕ → Option ParseError
btf_fault bytes = types_fault_in (ei_data bytes) (types_section bytes)

abbrev pub ext_beside : List ℕ → Option TypeInfo → Option ExtInfo
ext_beside bytes None = None
ext_beside bytes (Some types) = ext_in (ei_data bytes) types (ext_section bytes)

abbrev pub ext_fault_beside : ParseMode → List ℕ → Option TypeInfo → Option ParseError
ext_fault_beside mode bytes None = None
ext_fault_beside mode bytes (Some types) =
    ext_fault_in mode (ei_data bytes) types (ext_section bytes)

unfoldable pub ext_of : List ℕ → Option ExtInfo
ext_of bytes = ext_beside bytes (btf_of bytes)

unfoldable pub ext_fault : ParseMode → List ℕ → Option ParseError
ext_fault mode bytes = ext_fault_beside mode bytes (btf_of bytes)

-- the names that this step meets
abbrev pub ext_names_beside : List ℕ → Option TypeInfo → List (List ℕ × SectionIndex)
ext_names_beside bytes None = []
ext_names_beside bytes (Some types) = names_in (ext_section bytes)

unfoldable pub type_names : List ℕ → List (List ℕ × SectionIndex)
type_names bytes = names_in (types_section bytes)

unfoldable pub ext_names : List ℕ → List (List ℕ × SectionIndex)
ext_names bytes = ext_names_beside bytes (btf_of bytes)

unfoldable pub type_info_names : List ℕ → FinMap text_cmp SectionIndex
type_info_names bytes = put_all (put_all empty (type_names bytes)) (ext_names bytes)

-- the faults of this step
unfoldable pub file_types_fault : ParseMode → List ℕ → Option ParseError
file_types_fault mode bytes = or_else (btf_fault bytes) (ext_fault mode bytes)

-- CO-RE relocations of at least one section
abbrev pub has_relocations : Option ExtInfo → Bool
has_relocations None = false
has_relocations (Some x) = not (length x.relocations == 0)

-- ---- the externs of a file, and its types with what they add

-- beside types, where symbols say which names are weak
abbrev pub externs_beside : List SymbolValue → Option TypeInfo → FinMap text_cmp ExternDesc
externs_beside symbols None = empty
externs_beside symbols (Some types) = externs types (weak_named symbols)

abbrev pub externs_fault_beside : List SymbolValue → Option TypeInfo → Option ParseError
externs_fault_beside symbols None = None
externs_fault_beside symbols (Some types) =
    option_map BtfError (extern_declarations_fault types (weak_named symbols))

-- of a file: its types, with those that externs add
unfoldable pub types_of_file : List ℕ → Option TypeInfo
types_of_file bytes = option_map extern_types (btf_of bytes)

unfoldable pub externs_of : List ℕ → FinMap text_cmp ExternDesc
externs_of bytes = externs_beside (file_symbols bytes) (btf_of bytes)

unfoldable pub file_externs_fault : List ℕ → Option ParseError
file_externs_fault bytes = externs_fault_beside (file_symbols bytes) (btf_of bytes)
