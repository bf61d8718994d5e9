-- Laws of the tables of each file.
use Rattle.std.specs.FinMap.{FinMap, get}
use Rattle.std.specs.List.{flat_map, find}
use Rattle.std.specs.Ordering.{nat_cmp}
use Rattle.std.specs.Prelude.{◌≡◌, ◌≢◌, ◌⊎◌, ℕ, false, true, List, Some, None, slice_get, ◌<◌, ◌^◌}
use Rattle.std.specs.Prelude.{length, ◌==◌}
use Rattle.ebpf_base.specs.Maps.{key_cmp}
use Rattle.ebpf_base.specs.declared.endianness.Endianness.TheVariants.{Little}
use Rattle.ebpf_elf.specs.Headers.{ei_data}
use Rattle.ebpf_elf.specs.Symbols.{symbol_table_section as table_of}
use Rattle.ebpf_elf.specs.declared.relocation.ElfRelocation.{ElfRelocation}
use Rattle.ebpf_model.specs.declared.symbol.ExternDesc.{ExternDesc}
use Rattle.ebpf_model.specs.declared.function.Function.{Function}
use Rattle.ebpf_model.specs.declared.function.Program.{Program}
use Rattle.ebpf_model.specs.declared.symbol.Symbol.{Symbol}
use Rattle.ebpf_parts.specs.Maps.{section_index_of, symbol_index_of}
use Rattle.ebpf_parts.specs.Sections.{SectionValue}
use Rattle.ebpf_parts.specs.Slots.{slots_of}
use Rattle.ebpf_parts.specs.declared.error.ParseError.TheVariants.{InvalidProgramSection}
use Rattle.ebpf_parts.specs.declared.error.ParseError.TheVariants.{BigEndianCode, OtherMachine}
use Rattle.ebpf_parts.specs.declared.maps.either.Map.{Map}
use Rattle.ebpf_parts.specs.declared.program_section.ProgramSection.TheVariants.{Other}
use Rattle.ebpf_parts.specs.declared.parse_mode.ParseMode.{ParseMode}
use Rattle.ebpf_parts.specs.declared.parse_mode.ParseMode.TheVariants.{Lenient}
use Rattle.ebpf_parts.specs.declared.section.EbpfSectionKind.TheVariants.{Data, Rodata, Bss, Text}
use Rattle.ebpf_parts.specs.declared.section.EbpfSectionKind.TheVariants.{Program as Programs}
use Rattle.ebpf_parsing.specs.FileContents.{maps_as, programs_as, functions, relocation_tables}
use Rattle.ebpf_parsing.specs.FileContents.{parse_fault_as, own_symbols, maps, programs}
use Rattle.ebpf_parsing.specs.FileContents.{parse_fault}
use Rattle.ebpf_parsing.specs.FileTypes.{externs_of, ext_of}
use Rattle.ebpf_parsing.specs.Maps.{data_map}
use Rattle.ebpf_sections.specs.LicenseAndVersion.{license_of, license_as}
use Rattle.ebpf_sections.specs.Records.{FuncAndLineInfo, func_and_line_info_of}
use Rattle.ebpf_sections.specs.Relocations.{relocations_by_offset}
use Rattle.ebpf_sections.specs.Sections.{is_for_ebpf, object_sections}
use Rattle.ebpf_sections.specs.Symbols.{file_symbols, symbol_table, symbol_of, symbol_entry}
use Rattle.ebpf_sections.specs.Symbols.{SymbolValue}
use Rattle.ebpf_sections.specs.Texts.{text_functions, text_fault}

-- ---- the entries of the tables of each file

-- the function at the key (section, address) is of this section, at this address
abbrev pub FunctionsAtTheirKeys : Type 0
FunctionsAtTheirKeys =
    (bytes : List ℕ) (section address : ℕ) (f : Function)
    → get (functions bytes) (section, address) ≡ Some f
    → (f.section_index.0 ≡ section) × (f.address ≡ address)

-- the symbol at the index i is the symbol i of the file's symbol table, with a name
pub record IsFileSymbol (bytes : List ℕ) (i : ℕ) (y : Symbol) : Type 0 where
  pub table : ℕ
  pub of_file : table_of bytes ≡ Some table
  pub same : y ≡ (symbol_entry (symbol_of (record { file = bytes; table = table; index = i }))).1
  pub number : y.index ≡ i
  pub name : List ℕ
  pub named : y.name ≡ Some name

abbrev pub SymbolsAtTheirIndices : Type 0
SymbolsAtTheirIndices =
    (bytes : List ℕ) (i : ℕ) (y : Symbol)
    → get (symbol_table (file_symbols bytes)) i ≡ Some y
    → IsFileSymbol bytes i y

-- the relocation at the offset o of a section has this offset, and no section has a table without
-- relocations
abbrev pub RelocationsAtTheirOffsets : Type 0
RelocationsAtTheirOffsets =
    (bytes : List ℕ) (section : ℕ) (table : FinMap nat_cmp ElfRelocation)
    → get (relocation_tables bytes) section ≡ Some table
    → ((o : ℕ) (r : ElfRelocation) → get table o ≡ Some r → r.offset ≡ o)
    × ((o : ℕ) × ((r : ElfRelocation) × (get table o ≡ Some r)))

-- the relocations of a section of code: Text or Program
pub record IsTableOfCode (bytes : List ℕ) (number : ℕ) (table : FinMap nat_cmp ElfRelocation)
    : Type 0 where
  pub index : ℕ
  pub section : SectionValue
  pub here : slice_get (object_sections bytes) index ≡ Some section
  pub numbered : section.index.0 ≡ number
  pub kind : (section.kind ≡ Text) ⊎ (section.kind ≡ Programs)
  pub own : table ≡ relocations_by_offset section.relocations

-- only sections of code have a table of relocations, each its own
abbrev pub TablesOfCode : Type 0
TablesOfCode =
    (bytes : List ℕ) (section : ℕ) (table : FinMap nat_cmp ElfRelocation)
    → get (relocation_tables bytes) section ≡ Some table
    → IsTableOfCode bytes section table

-- in a file without a fault no relocation names symbol 0, which is none
abbrev pub RelocationsNameSymbols : Type 0
RelocationsNameSymbols =
    (mode : ParseMode) (bytes : List ℕ)
    → parse_fault_as mode bytes ≡ None
    → (section : ℕ) (table : FinMap nat_cmp ElfRelocation)
    → get (relocation_tables bytes) section ≡ Some table
    → (o : ℕ) (r : ElfRelocation) → get table o ≡ Some r → r.symbol_index ≢ 0

-- a program's key is that of a function
abbrev pub ProgramsHaveFunctions : Type 0
ProgramsHaveFunctions =
    (mode : ParseMode) (bytes : List ℕ) (name : List ℕ) (p : Program)
    → get (programs_as mode bytes) name ≡ Some p
    → (f : Function) × (get (functions bytes) (p.section_index, p.address) ≡ Some f)

-- the table has a symbol i, with this name and in this section
pub record IsSymbolIn (bytes : List ℕ) (i : ℕ) (name : List ℕ) (section : ℕ) : Type 0 where
  pub symbol : Symbol
  pub here : get (symbol_table (file_symbols bytes)) i ≡ Some symbol
  pub named : symbol.name ≡ Some name
  pub inside : symbol.section_index ≡ Some section

-- the symbol of a map, where it has one, has the map's name and is in the map's section
abbrev pub MapsHaveTheirSymbols : Type 0
MapsHaveTheirSymbols =
    (mode : ParseMode) (bytes : List ℕ) (name : List ℕ) (m : Map)
    → get (maps_as mode bytes) name ≡ Some m
    → (i : ℕ) → symbol_index_of m ≡ Some i → IsSymbolIn bytes i name (section_index_of m)

-- the map of a section of data with this name
pub record IsDataMap (bytes : List ℕ) (name : List ℕ) (m : Map) : Type 0 where
  pub index : ℕ
  pub section : SectionValue
  pub here : slice_get (object_sections bytes) index ≡ Some section
  pub kind : (section.kind ≡ Data) ⊎ ((section.kind ≡ Rodata) ⊎ (section.kind ≡ Bss))
  pub named : section.name ≡ name
  pub own : m ≡ data_map section

-- any other map is that of a section of data
abbrev pub OtherMapsAreOfData : Type 0
OtherMapsAreOfData =
    (mode : ParseMode) (bytes : List ℕ) (name : List ℕ) (m : Map)
    → get (maps_as mode bytes) name ≡ Some m
    → symbol_index_of m ≡ None
    → IsDataMap bytes name m

-- an extern is not resolved: it has no id and no address
abbrev pub ExternsAreUnresolved : Type 0
ExternsAreUnresolved =
    (bytes : List ℕ) (name : List ℕ) (x : ExternDesc) → get (externs_of bytes) name ≡ Some x
    → (x.kernel_btf_id ≡ None) × ((x.ksym_addr ≡ None) × (x.is_resolved ≡ false))

-- ---- that the functions of a Text section tile it

-- where a Text section has no fault, its functions in order of their offset, concatenated, are the
-- slots of its data
abbrev pub FunctionsTile : Type 0
FunctionsTile = (infos : FuncAndLineInfo) (s : SectionValue) (symbols : List SymbolValue)
    → text_fault s symbols ≡ None
    → flat_map (λ f. f.instructions) (text_functions infos s symbols) ≡ slots_of s.bytes

-- ---- the functions that an object's table has of each Text section

-- a Text section of a file without a fault, by its place among the sections that are read; as each
-- slice, the file has fewer than 2 ^ 64 bytes
pub record IsTextSection (mode : ParseMode) (bytes : List ℕ) (n : ℕ) (s : SectionValue)
    : Type 0 where
  pub short : length bytes < 2 ^ 64
  pub clear : parse_fault_as mode bytes ≡ None
  pub here : slice_get (object_sections bytes) n ≡ Some s
  pub text : s.kind ≡ Text

-- the functions that its symbols give, in order of their offset
abbrev pub own_functions : List ℕ → SectionValue → List Function
own_functions bytes s =
    text_functions (func_and_line_info_of (ext_of bytes) s.name) s (own_symbols bytes s)

-- each function's offset is below those of the functions behind it
abbrev pub OffsetsRise : List Function → Type 0
OffsetsRise fs =
    (i j : ℕ) (f g : Function) → i < j → slice_get fs i ≡ Some f → slice_get fs j ≡ Some g
    → f.section_offset < g.section_offset

-- the functions that a table has of a section, in order of their offset
pub record AreInOrder (table : FinMap key_cmp Function) (number : ℕ) (fs : List Function)
    : Type 0 where
  pub rise : OffsetsRise fs
  pub stand : (i : ℕ) (f : Function) → slice_get fs i ≡ Some f
      → get table (number, f.address) ≡ Some f
  pub all : (address : ℕ) (f : Function) → get table (number, address) ≡ Some f
      → (i : ℕ) × (slice_get fs i ≡ Some f)

-- the table has at each address of the section the function that begins there,
abbrev pub AtEachAddress : Type 0
AtEachAddress =
    (mode : ParseMode) (bytes : List ℕ) (n : ℕ) (s : SectionValue) → IsTextSection mode bytes n s
    → (address : ℕ)
    → get (functions bytes) (s.index.0, address)
    ≡ find (λ f. f.address == address) (own_functions bytes s)

-- and just these, also where the section's addresses begin again at 0 behind 2 ^ 64;
abbrev pub InOrder : Type 0
InOrder =
    (mode : ParseMode) (bytes : List ℕ) (n : ℕ) (s : SectionValue)
    → IsTextSection mode bytes n s
    → AreInOrder (functions bytes) s.index.0 (own_functions bytes s)

-- concatenated in order of their offset they are the slots of the section's data
abbrev pub SectionsTile : Type 0
SectionsTile =
    (mode : ParseMode) (bytes : List ℕ) (n : ℕ) (s : SectionValue)
    → IsTextSection mode bytes n s
    → (fs : List Function)
    → AreInOrder (functions bytes) s.index.0 fs
    → flat_map (λ f. f.instructions) fs ≡ slots_of s.bytes

-- ---- the common results of the two parse modes, and the results of one alone

-- lenient parsing of a file has no fault, and the same results as strict parsing
pub record IsReadAlike (bytes : List ℕ) : Type 0 where
  pub license : license_as Lenient bytes ≡ license_of bytes
  pub maps : maps_as Lenient bytes ≡ maps bytes
  pub programs : programs_as Lenient bytes ≡ programs bytes
  pub sound : parse_fault_as Lenient bytes ≡ None

-- so is each little-endian file for eBPF or for no machine that strict parsing takes
abbrev pub ModesAgree : Type 0
ModesAgree =
    (bytes : List ℕ)
    → ei_data bytes ≡ Little
    → is_for_ebpf bytes ≡ true
    → parse_fault bytes ≡ None
    → IsReadAlike bytes

-- lenient parsing refuses no file because a section's name says no program type
abbrev pub LenientRefusesNoName : Type 0
LenientRefusesNoName =
    (bytes name : List ℕ) → parse_fault_as Lenient bytes ≢ Some (InvalidProgramSection name)

-- strict parsing refuses no file for the order of its code,
abbrev pub StrictTakesBothOrders : Type 0
StrictTakesBothOrders = (bytes : List ℕ) → parse_fault bytes ≢ Some BigEndianCode

-- and none for its machine
abbrev pub StrictTakesEachMachine : Type 0
StrictTakesEachMachine =
    (bytes : List ℕ) (machine : ℕ) → parse_fault bytes ≢ Some (OtherMachine machine)

-- in strict parsing each program has a kind of the table
abbrev pub StrictKindsAreNamed : Type 0
StrictKindsAreNamed =
    (bytes name : List ℕ) (p : Program) → get (programs bytes) name ≡ Some p → p.section ≢ Other
