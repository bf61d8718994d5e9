-- The number of bytes that an object owns, and an upper bound of it that is counted on the file.
--
-- `owned_bytes` counts an object by the sizes of the table below. `made_bytes` counts a file by the
-- same sizes, before the object is made. `ObjectsOwnWhatIsMade` says that the object of a file owns
-- at most the bytes that are counted on the file. An object has things that contracts don't see,
-- as a section of `.BTF.ext` behind which one of the same name counts: `made_bytes` counts them.
--
-- A worked example: a function `f` of 2 slots with one func info entry and two line info entries.
-- `function_row` counts 400 for the entry, 1 for the name, 2 * 16 for the slots, and `record_bytes
-- 1 2` = 1 * 8 + 2 * 16 = 40 for the info entries: 473 bytes. On the file `function_bytes` counts
-- the same 473 for the symbol `f`: 400 + 1, 2 * `code_bytes` = 2 * 16, `record_bytes 1 2` = 40. The
-- symbol also counts 209 + 161 in `symbol_bytes`, for its entry among the symbols and for an extern
-- that it may name. So the count of the file is greater where it names none.
use Rattle.std.specs.Prelude.{ℕ, List, [], Option, Some, None, is_some, if◌then◌else◌, ◌+◌, ◌∷◌}
use Rattle.std.specs.Prelude.{◌*◌, length, ◌-◌, ◌%◌, ◌^◌, Bool, true, false, map, filter, codes}
use Rattle.std.specs.Prelude.{nat_lt, min, slice_get, ◌≡◌, ◌≤◌, ◌<◌, unwrap_or}
use Rattle.std.specs.Result.{result_ok}
use Rattle.std.specs.FinMap.{entries, FinMap}
use Rattle.std.specs.Ordering.{nat_cmp}
use Rattle.ebpf_base.specs.Faults.{first_of}
use Rattle.ebpf_btf.specs.Reading.{type_info_of}
use Rattle.ebpf_btf.specs.TypeInfo.{TypeInfo}
use Rattle.ebpf_elf.specs.Headers.{ei_data}
use Rattle.ebpf_elf.specs.Sections.{SectionOf, data_faults, data_of, header, sections, section_name}
use Rattle.ebpf_btf_ext.specs.ExtReading.{ExtInfo, read_ext, func_info_at, line_info_at}
use Rattle.ebpf_parsing.specs.FileTypes.{types_section, ext_section}
use Rattle.ebpf_parsing.specs.Sections.{first_section_named, is_kind_of_code}
use Rattle.ebpf_base.specs.declared.endianness.Endianness.{Endianness}
use Rattle.ebpf_btf.specs.Format.{word}
use Rattle.ebpf_btf.specs.Words.{types_length}
use Rattle.ebpf_elf.specs.Relocations.{relocation_sections, relocated_section, entry_count}
use Rattle.ebpf_elf.specs.Symbols.{SymbolOf, entry, symbols, symbol_name, symbol_kind}
use Rattle.ebpf_elf.specs.Symbols.{symbol_section_index}
use Rattle.ebpf_elf.specs.declared.relocation.ElfRelocation.{ElfRelocation}
use Rattle.ebpf_elf.specs.declared.section.SectionIndex.{SectionIndex}
use Rattle.ebpf_elf.specs.declared.symbol.SymbolEntry.{SymbolEntry}
use Rattle.ebpf_btf_ext.specs.ExtFormat.{func_part, line_part, core_relo_part, part_length}
use Rattle.ebpf_btf_ext.specs.declared.ext_infos.FuncSecInfo.{FuncSecInfo}
use Rattle.ebpf_btf_ext.specs.declared.ext_infos.LineSecInfo.{LineSecInfo}
use Rattle.ebpf_btf_ext.specs.declared.ext_infos.bpf_func_info.{bpf_func_info}
use Rattle.ebpf_btf_ext.specs.declared.ext_infos.bpf_line_info.{bpf_line_info}
use Rattle.ebpf_btf_ext.specs.declared.relocation.Relocation.{Relocation}
use Rattle.ebpf_model.specs.Symbols.{FunctionKey}
use Rattle.ebpf_model.specs.declared.function.Function.{Function}
use Rattle.ebpf_model.specs.declared.function.Program.{Program}
use Rattle.ebpf_model.specs.declared.symbol.ExternDesc.{ExternDesc}
use Rattle.ebpf_model.specs.declared.symbol.Symbol.{Symbol}
use Rattle.ebpf_object.specs.Objects.{object_as, parse_fault_as}
use Rattle.ebpf_object.specs.declared.object.Object.{Object}
use Rattle.ebpf_parsing.specs.Records.{func_info_of, line_info_of, is_func_at, is_line_in}
use Rattle.ebpf_parsing.specs.Records.{slot_of_func, slot_of_line, slot_of, rises_from}
use Rattle.ebpf_parsing.specs.Symbols.{is_text_symbol}
use Rattle.ebpf_parts.specs.Maps.{bytes_of}
use Rattle.ebpf_parts.specs.Sections.{kind_of_section, name_or_empty}
use Rattle.ebpf_parts.specs.declared.maps.either.Map.{Map}
use Rattle.ebpf_parts.specs.declared.parse_mode.ParseMode.{ParseMode}
use Rattle.ebpf_parts.specs.declared.section.EbpfSectionKind.{EbpfSectionKind}
use Rattle.ebpf_parts.specs.declared.section.EbpfSectionKind.TheVariants.{Maps, BtfMaps, Data}
use Rattle.ebpf_parts.specs.declared.section.EbpfSectionKind.TheVariants.{Rodata, Bss, Text}
use Rattle.ebpf_parts.specs.declared.section.EbpfSectionKind.TheVariants.{Program as Programs}

-- ---- the sizes: the bytes of each thing that an object owns, in the memory of a 64-bit machine.
--
-- A list or a text that is made whole has the room that it needs. One that grows doubles its room,
-- so it has at most twice what it needs.
--
-- A table by name, key or offset has nodes of 15 places, of which at least 7 are taken in each but
-- one. A node of entries of `s` bytes takes at most 15 * s + 136: 8 for itself and 128 for the
-- nodes below it. So an entry counts a seventh of that, and a table one node more. A text as a key
-- has 24 bytes, beside its letters.

-- An object: 640 of its own, one node of each of its six tables, 8,976, a group of its symbols,
-- 928, and the least room of three lists in `.BTF.ext`, 448.
abbrev pub object_size : ℕ
object_size = 10992

-- an extern: a name and 40 bytes
abbrev pub extern_size : ℕ
extern_size = 160

-- a map: a name and 152 bytes
abbrev pub map_size : ℕ
map_size = 400

-- a program: a name and 56 bytes
abbrev pub program_size : ℕ
program_size = 192

-- a function: a key of 16 bytes and 144 bytes, 363 in all; and room for 4 slots
abbrev pub function_size : ℕ
function_size = 400

-- a slot of 8 bytes, in a list that grows
abbrev pub slot_size : ℕ
slot_size = 16

-- A symbol: 80 bytes, an index of 8 and a hash of 8 in a hashed table. It has groups of 9 symbols,
-- with 64 bytes beside them, 928 in all, and up to twice the groups that it needs.
abbrev pub symbol_size : ℕ
symbol_size = 208

-- a section's relocations: a number and 24 bytes in a table, 88, and one node of its own table
abbrev pub relocations_size : ℕ
relocations_size = 704

-- a relocation: an offset and 24 bytes
abbrev pub relocation_size : ℕ
relocation_size = 88

-- a section's index by its name: a name and 8 bytes
abbrev pub section_size : ℕ
section_size = 88

-- A byte of types: itself, in a list that grows where an extern adds a type; and the 4 bytes of
-- each type's offset, also in a list that grows. A type has 12 bytes or more.
abbrev pub type_byte_size : ℕ
type_byte_size = 3

-- A byte of strings: itself, in a list that grows where an extern adds a name; and the names of
-- sections that func info and line info copy, each in a list that grows up to all strings.
abbrev pub string_byte_size : ℕ
string_byte_size = 6

-- the types `int` and `ksym_func_placeholder` that externs add: 32 bytes, and 26 of strings
abbrev pub extern_types_size : ℕ
extern_types_size = 256

-- a section of func info or line info: 40 bytes in a list that grows
abbrev pub info_section_size : ℕ
info_section_size = 80

-- a section of CO-RE relocations: 32 bytes in a list that grows
abbrev pub core_section_size : ℕ
core_section_size = 64

-- a func info entry, a line info entry, a CO-RE relocation
abbrev pub func_size : ℕ
func_size = 8

abbrev pub line_size : ℕ
line_size = 16

abbrev pub core_relo_size : ℕ
core_relo_size = 24

-- A byte of a part of `.BTF.ext` in the file. The part has 8 bytes for each of its sections, of
-- which the object has at most `info_section_size`, 10 times as many; of an entry it has less.
abbrev pub ext_byte_size : ℕ
ext_byte_size = 10

-- ---- the parts of a file's sections that can be read before any other fault of the file is known.
-- Data outside the file, and type information with a fault, count as none: a file with such a
-- section is refused.

-- the data of a section
unfoldable pub readable_data : SectionOf → List ℕ
readable_data s = if is_some (first_of (data_faults s)) then [] else data_of s

-- of the first section of a name, where there is one
abbrev pub data_in : Option SectionOf → List ℕ
data_in None = []
data_in (Some s) = readable_data s

abbrev pub data_named : List ℕ → List ℕ → List ℕ
data_named name file = data_in (first_section_named name file)

-- the types in its section `.BTF`
unfoldable pub readable_types : List ℕ → Option TypeInfo
readable_types file = result_ok (type_info_of (ei_data file) (data_in (types_section file)))

-- the records in its section `.BTF.ext`
abbrev pub ext_beside_types : List ℕ → Option TypeInfo → Option ExtInfo
ext_beside_types file None = None
ext_beside_types file (Some types) =
    result_ok (read_ext true (ei_data file) (data_in (ext_section file)) types.strings)

unfoldable pub readable_ext : List ℕ → Option ExtInfo
readable_ext file = ext_beside_types file (readable_types file)

-- ---- sums over lists.

-- the sum of what each item counts
abbrev pub total : {X : Type 0} → (X → ℕ) → List X → ℕ
total f [] = 0
total f (x ∷ xs) = f x + total f xs

-- ---- how many bytes the sections of `.BTF.ext` take in an object

abbrev pub funcs_row : List ℕ × FuncSecInfo → ℕ
funcs_row e = info_section_size + func_size * length e.1.func_info

abbrev pub lines_row : List ℕ × LineSecInfo → ℕ
lines_row e = info_section_size + line_size * length e.1.line_info

abbrev pub core_row : ℕ × List Relocation → ℕ
core_row e = core_section_size + core_relo_size * length e.1

abbrev pub ext_bytes : Option ExtInfo → ℕ
ext_bytes None = 0
ext_bytes (Some ext) =
    total funcs_row (entries ext.func_info)
    + total lines_row (entries ext.line_info)
    + total core_row ext.relocations

-- ---- the bytes that are made of a file: a sum over the headers of its sections, over its symbols
-- and over its info entries. Each entry that is put into a table of the object counts, also where a
-- later one of its key replaces it

-- ---- names

-- the length of a name. One that can't be read counts as the file does: a file with one is refused,
-- and to look for its end took no longer.
abbrev pub name_bytes : List ℕ → Option (List ℕ) → ℕ
name_bytes file None = length file
name_bytes file (Some name) = length name

-- ---- the license and the type information

-- the license's section, or the three letters of `GPL`
abbrev pub license_in : Option SectionOf → ℕ
license_in None = 3
license_in (Some s) = length (readable_data s)

unfoldable pub license_bytes : List ℕ → ℕ
license_bytes file = license_in (first_section_named (codes "license") file)

-- the types and the strings of `.BTF`, whose lengths its header has (btf_header's type_len and
-- str_len)
abbrev pub types_in_bytes : Endianness → List ℕ → Option TypeInfo → ℕ
types_in_bytes o bytes None = 0
types_in_bytes o bytes (Some types) =
    if nat_lt (length bytes) 24
    then 0
    else type_byte_size * word o bytes 12 + string_byte_size * word o bytes 20

-- the three parts of `.BTF.ext`
abbrev pub part_bytes : Endianness → List ℕ → ℕ → ℕ
part_bytes o bytes at = if nat_lt (length bytes) (at + 8) then 0 else part_length o bytes at

abbrev pub ext_in_bytes : Endianness → List ℕ → Option ExtInfo → ℕ
ext_in_bytes o bytes None = 0
ext_in_bytes o bytes (Some ext) =
    ext_byte_size
    * (part_bytes o bytes func_part
    + part_bytes o bytes line_part
    + part_bytes o bytes core_relo_part)

-- both, where they can be read, and what externs add to the types
unfoldable pub type_information_bytes : List ℕ → ℕ
type_information_bytes file =
    extern_types_size
    + types_in_bytes (ei_data file) (data_in (types_section file)) (readable_types file)
    + ext_in_bytes (ei_data file) (data_in (ext_section file)) (readable_ext file)

-- ---- sections

-- a section's index by its name
unfoldable pub section_entry_bytes : List ℕ → SectionOf → ℕ
section_entry_bytes file s = section_size + name_bytes file (section_name s)

-- the facts of a section that count for its symbols
pub record SectionFacts : Type 0 where
  pub kind : EbpfSectionKind
  pub address : ℕ
  pub size : ℕ
  pub funcs : List bpf_func_info
  pub lines : List bpf_line_info

unfoldable pub facts_of : Option ExtInfo → SectionOf → SectionFacts
facts_of ext s = record {
  kind = kind_of_section (name_or_empty s) (header s);
  address = (header s).sh_addr;
  size = (header s).sh_size;
  funcs = (func_info_at (func_info_of ext) (name_or_empty s)).func_info;
  lines = (line_info_at (line_info_of ext) (name_or_empty s)).line_info;
}

-- info entries of a function
abbrev pub record_bytes : ℕ → ℕ → ℕ
record_bytes funcs lines = func_size * funcs + line_size * lines

-- a section of data is a map of its name with its data, `.bss` too; the records of a section of
-- code are gathered
abbrev pub contents_by : EbpfSectionKind → ℕ → SectionFacts → ℕ
contents_by Data name f = map_size + name + f.size
contents_by Rodata name f = map_size + name + f.size
contents_by Bss name f = map_size + name + f.size
contents_by Text name f = record_bytes (length f.funcs) (length f.lines)
contents_by Programs name f = record_bytes (length f.funcs) (length f.lines)
contents_by _ name f = 0

unfoldable pub contents_bytes : List ℕ → Option ExtInfo → SectionOf → ℕ
contents_bytes file ext s =
    contents_by (facts_of ext s).kind (name_bytes file (section_name s)) (facts_of ext s)

-- ---- symbols

-- how many func records a function has that begins at a slot: those at its slot, where the
-- section's are in order
abbrev pub func_count : SectionFacts → ℕ → ℕ
func_count f first =
    if rises_from slot_of_func 0 f.funcs
    then length (filter (is_func_at first) f.funcs)
    else length f.funcs

-- how many line records a function of so many slots has
abbrev pub line_count : SectionFacts → ℕ → ℕ → ℕ
line_count f first count =
    if rises_from slot_of_line 0 f.lines
    then length (filter (is_line_in first count) f.lines)
    else length f.lines

-- the offset of a symbol of an address in a section; a text section may begin again at address 0
abbrev pub offset_by : EbpfSectionKind → ℕ → ℕ → ℕ
offset_by Text start address = (address + (2 ^ 64 - start % 2 ^ 64)) % 2 ^ 64
offset_by _ start address = address - start

-- the slot of its section at which a symbol begins
abbrev pub first_slot : SectionFacts → SymbolEntry → ℕ
first_slot f e = slot_of (offset_by f.kind f.address e.st_value)

-- the code of a function: no more than its section
abbrev pub code_bytes : SectionFacts → SymbolEntry → ℕ
code_bytes f e = min f.size e.st_size

-- a function: an entry, its name, its slots (`slot_size` is twice their bytes) and its records
unfoldable pub function_bytes : ℕ → SectionFacts → SymbolEntry → ℕ
function_bytes name f e =
    function_size
    + name
    + 2 * code_bytes f e
    + record_bytes (func_count f (first_slot f e))
    (line_count f (first_slot f e) (slot_of e.st_size))

-- the bytes of a symbol by its section: a function, and a program with the license; or a map
abbrev pub placed_by : EbpfSectionKind → Bool → ℕ → ℕ → SectionFacts → SymbolEntry → ℕ
placed_by Text true license name f e = function_bytes name f e
placed_by Programs true license name f e =
    function_bytes name f e + (program_size + name + license)
placed_by Maps is_text license name f e = map_size + name
placed_by BtfMaps is_text license name f e = map_size + name
placed_by _ is_text license name f e = 0

abbrev pub placed_in : Option SectionFacts → ℕ → ℕ → SymbolEntry → ℕ
placed_in None license name e = 0
placed_in (Some f) license name e =
    placed_by f.kind (is_text_symbol (symbol_kind e)) license name f e

-- the facts of the section with an index, from 1 on
abbrev pub facts_at : List SectionFacts → Option ℕ → Option SectionFacts
facts_at all None = None
facts_at all (Some index) = slice_get all (index - 1)

-- the bytes of a symbol: an entry of the symbols, an extern that it may name, and its function or
-- map
unfoldable pub symbol_bytes : List ℕ → ℕ → List SectionFacts → SymbolOf → ℕ
symbol_bytes file license all y =
    symbol_size
    + extern_size
    + 2 * name_bytes file (symbol_name y)
    + placed_in (facts_at all (symbol_section_index (entry y))) license
    (name_bytes file (symbol_name y)) (entry y)

-- ---- relocations

abbrev pub relocated_kind : Option SectionFacts → Bool
relocated_kind None = false
relocated_kind (Some f) = is_kind_of_code f.kind

-- the relocations of a section of code
unfoldable pub relocation_bytes : List SectionFacts → SectionOf → ℕ
relocation_bytes all r =
    if relocated_kind (facts_at all (Some (relocated_section r)))
    then relocations_size + relocation_size * entry_count r
    else 0

-- ---- the sum

-- the facts of all sections
abbrev pub all_facts : List ℕ → List SectionFacts
all_facts file = map (facts_of (readable_ext file)) (sections file)

abbrev pub made_bytes : List ℕ → ℕ
made_bytes file =
    (object_size + license_bytes file + total (section_entry_bytes file) (sections file))
    + (type_information_bytes file
    + total (contents_bytes file (readable_ext file)) (sections file)
    + (total (symbol_bytes file (license_bytes file) (all_facts file)) (symbols file)
    + total (relocation_bytes (all_facts file)) (relocation_sections file)))

-- ---- the bytes that an object owns

-- ---- a row of a table

abbrev pub extern_row : List ℕ × ExternDesc → ℕ
extern_row e = extern_size + length e.0

abbrev pub section_row : List ℕ × SectionIndex → ℕ
section_row e = section_size + length e.0

abbrev pub program_row : List ℕ × Program → ℕ
program_row e = program_size + length e.0 + length e.1.license

abbrev pub map_row : List ℕ × Map → ℕ
map_row e = map_size + length e.0 + length (bytes_of e.1)

abbrev pub function_row : FunctionKey × Function → ℕ
function_row e =
    function_size
    + length e.1.name
    + slot_size * length e.1.instructions
    + record_bytes (length e.1.func_info.func_info) (length e.1.line_info.line_info)

abbrev pub symbol_row : ℕ × Symbol → ℕ
symbol_row e = symbol_size + length (unwrap_or e.1.name [])

abbrev pub relocations_row : ℕ × FinMap nat_cmp ElfRelocation → ℕ
relocations_row e = relocations_size + relocation_size * length (entries e.1)

-- ---- the type information

abbrev pub types_bytes : Option TypeInfo → ℕ
types_bytes None = 0
types_bytes (Some types) =
    type_byte_size * types_length types.types + string_byte_size * length types.strings

-- ---- the whole

abbrev pub owned_bytes : Object → ℕ
owned_bytes o =
    object_size
    + length o.license
    + types_bytes o.btf
    + ext_bytes o.btf_ext
    + total extern_row (entries o.externs)
    + total map_row (entries o.maps)
    + total program_row (entries o.programs)
    + total function_row (entries o.functions)
    + total symbol_row (entries o.symbol_table)
    + total relocations_row (entries o.relocations)
    + total section_row (entries o.section_infos)

-- The object of a file without a fault owns at most the bytes that are made of the file. As each
-- slice, the file has fewer than 2 ^ 64 bytes.
abbrev pub ObjectsOwnWhatIsMade : Type 0
ObjectsOwnWhatIsMade =
    (mode : ParseMode) (file : List ℕ)
    → length file < 2 ^ 64
    → parse_fault_as mode file ≡ None
    → owned_bytes (object_as mode file) ≤ made_bytes file

-- ---- what contracts of private functions name and no public one.

-- the rest of a limit after bytes are taken from it, and the value that is made where they fit
abbrev pub Took : {X : Type 0} → Option X → ℕ → ℕ → ℕ → Type 0
Took None before after bytes = before < bytes
Took (Some x) before after bytes = after + bytes ≡ before

-- the sum in three parts
abbrev pub first_bytes : List ℕ → ℕ
first_bytes file =
    object_size + license_bytes file + total (section_entry_bytes file) (sections file)

abbrev pub last_bytes : List ℕ → ℕ
last_bytes file =
    total (symbol_bytes file (license_bytes file) (all_facts file)) (symbols file)
    + total (relocation_bytes (all_facts file)) (relocation_sections file)

abbrev pub later_bytes : List ℕ → ℕ
later_bytes file =
    type_information_bytes file
    + total (contents_bytes file (readable_ext file)) (sections file)
    + last_bytes file
