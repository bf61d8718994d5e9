-- Which faults of a file the two modes don't share: a name that says no kind, another machine, and big-endian code. None
-- is that of a limit.
use Rattle.std.proofs.Common.{◌≡◌, ◌≢◌, ℕ, Bool, true, false, List, [], ◌∷◌, length, filter, Option, Some, None, Result, Ok, Err, option_map, refl, sym, ap, ◌∙◌}
use Rattle.std.specs.List.{list_any, AllByRecursion}
use Rattle.std.specs.Prelude.{◌+◌, ◌^◌, ◌||◌, ◌==◌, not, nat_lt, is_some, if◌then◌else◌}
use Rattle.ebpf_base.specs.Faults.{or_else, first_of, first_in, first_some, fault_of}
use Rattle.ebpf_base.specs.declared.endianness.Endianness.{Endianness}
use Rattle.ebpf_btf.specs.Next.{if_some}
use Rattle.ebpf_btf.specs.TypeInfo.{TypeInfo}
use Rattle.ebpf_btf.specs.declared.error.BtfError.{BtfError as TypeError}
use Rattle.ebpf_btf.specs.declared.error.BtfError.TheVariants.{InvalidSymbolName}
use Rattle.ebpf_btf_decls.specs.DataSections.{DatasecMatch, Named, UnreadableName, datasec_match}
use Rattle.ebpf_btf_decls.specs.Maps.{declared, map_with_symbol, map_at, entry_map, matched_maps_fault as fault_of_entries, type_maps_fault, btf_maps_fault, TypesInMode, types_in_mode}
use Rattle.ebpf_btf_decls.specs.declared.members.MapDefinitions.{MapDefinitions}
use Rattle.ebpf_elf.specs.Faults.{faults}
use Rattle.ebpf_elf.specs.Headers.{e_machine, ei_data}
use Rattle.ebpf_elf.specs.Relocations.{relocations}
use Rattle.ebpf_elf.specs.Sections.{SectionOf, section_name, data_faults}
use Rattle.ebpf_elf.specs.Symbols.{SymbolOf, symbol_name, symbols}
use Rattle.ebpf_elf.specs.declared.error.ElfReadError.TheVariants.{BadStringTable}
use Rattle.ebpf_parts.specs.ProgramTypes.{no_section, section_as}
use Rattle.ebpf_parts.specs.Sections.{SectionValue, section_of, section_name_fault, data_fault, section_fault, section_fault_with}
use Rattle.ebpf_parts.specs.Slots.{code_faults}
use Rattle.ebpf_parts.specs.declared.error.ParseError.{ParseError}
use Rattle.ebpf_parts.specs.declared.error.ParseError.TheVariants.{ElfError, BtfError, MissingLicenseNullTerminator, InvalidLicense, InvalidKernelVersion, SectionError, UnsupportedRelocationTarget, InvalidProgramSection, InvalidMapDefinition, InvalidSymbol, SymbolNotFound, NoSymbolsForSection, BigEndianCode, TooLarge, OtherMachine}
use Rattle.ebpf_parts.specs.declared.maps.either.Map.{Map}
use Rattle.ebpf_parts.specs.declared.program_section.ProgramSection.{ProgramSection}
use Rattle.ebpf_parts.specs.declared.parse_mode.ParseMode.{ParseMode}
use Rattle.ebpf_parts.specs.declared.parse_mode.ParseMode.TheVariants.{Strict, Lenient}
use Rattle.ebpf_parts.specs.declared.section.EbpfSectionKind.{EbpfSectionKind}
use Rattle.ebpf_parts.specs.declared.section.EbpfSectionKind.TheVariants.{Maps, BtfMaps, Data, Rodata, Bss, Text, Program as Programs}
use Rattle.ebpf_parsing.specs.FileContents.{read_fault, sections_fault, parse_fault_as}
use Rattle.ebpf_parsing.specs.FileTypes.{types_of_file, externs_fault_beside, file_externs_fault, btf_of, types_fault_in, btf_fault, ext_fault_in, ext_fault_beside, ext_fault, file_types_fault, types_section, ext_section}
use Rattle.ebpf_parsing.specs.Laws.{LenientRefusesNoName, StrictTakesBothOrders, StrictTakesEachMachine}
use Rattle.ebpf_parsing.specs.Maps.{data_map_fault, btf_defined_maps_fault, struct_bytes, word_at, legacy_fault, legacy_maps_fault}
use Rattle.ebpf_parsing.specs.OfSection.{fault_by, fault_in, program_section_faults}
use Rattle.ebpf_sections.specs.LicenseAndVersion.{strict_text_fault, license_text_fault, license_fault_in, license_fault_as, version_number_fault, version_fault_in, version_fault, has_zero, front_of}
use Rattle.ebpf_sections.specs.Programs.{is_program_symbol, program_bytes, range_faults, program_fault, programs_fault}
use Rattle.ebpf_sections.specs.Sections.{has_big_endian_code, is_for_ebpf, machine_fault_as, order_fault_as, other_sections}
use Rattle.ebpf_sections.specs.Symbols.{file_symbols, symbol_fault, symbols_fault, SymbolValue, section_symbols}
use Rattle.ebpf_sections.specs.Texts.{text_function_bytes, conflict_fault_at, conflict_fault, repeated, text_fault_of, text_fault_at, symbol_at_offset, offsets, text_fault}

-- a fault that only one of the readings has, or that of a limit
abbrev is_told : ParseError → Bool
is_told (InvalidProgramSection _) = true
is_told BigEndianCode = true
is_told (OtherMachine _) = true
is_told (TooLarge _) = true
is_told _ = false

-- a test of a fault, where there is one
abbrev says : (ParseError → Bool) → Option ParseError → Bool
says test None = false
says test (Some e) = test e

abbrev told : Option ParseError → Bool
told = says is_told

abbrev Plain : Option ParseError → Type 0
Plain o = told o ≡ false

abbrev is_big_endian_code : ParseError → Bool
is_big_endian_code BigEndianCode = true
is_big_endian_code _ = false

abbrev is_other_machine : ParseError → Bool
is_other_machine (OtherMachine _) = true
is_other_machine _ = false

-- ---- faults one after the other

module _ (test : Option ParseError → Bool) where
  either : (a b : Option ParseError) → test a ≡ false → test b ≡ false → test (or_else a b) ≡ false
  either None b first later = later
  either (Some e) b first later = first

  all_of : {A : Type 0} → test None ≡ false → (f : A → Option ParseError) → ((x : A) → test (f x) ≡ false) → (xs : List A) → test (first_some f xs) ≡ false
  all_of none f each [] = none
  all_of none f each (x ∷ xs) = either (f x) (first_some f xs) (each x) (all_of none f each xs)

plain_all : {A : Type 0} (f : A → Option ParseError) → ((x : A) → Plain (f x)) → (xs : List A) → Plain (first_some f xs)
plain_all f each xs = all_of told refl f each xs

rows_plain : (rows : List (Bool × ParseError)) → AllByRecursion (λ row. is_told row.1 ≡ false) rows → Plain (first_of rows)
rows_plain [] all = refl
rows_plain (row ∷ rows) all = by_test row.0 (rows_plain rows all.1)
  where
    by_test : (b : Bool) → Plain (first_of rows) → Plain (if b then Some row.1 else first_of rows)
    by_test true later = all.0
    by_test false later = later

made_plain : {A : Type 0} (g : A → ParseError) → ((x : A) → is_told (g x) ≡ false) → (o : Option A) → Plain (option_map g o)
made_plain g each None = refl
made_plain g each (Some x) = each x

if_plain : (b : Bool) (e : ParseError) → is_told e ≡ false → Plain (if b then Some e else None)
if_plain true e is = is
if_plain false e is = refl

unless_plain : (b : Bool) (o : Option ParseError) → Plain o → Plain (if b then None else o)
unless_plain true o is = refl
unless_plain false o is = is

-- ---- sections

section_plain : (s : SectionOf) → Plain (section_fault s)
unfolding section_fault section_fault_with
section_plain s =
    either told (section_name_fault s) _ (unless_plain (is_some (section_name s)) (Some (SectionError s.index BadStringTable)) refl)
    (either told (data_fault s) _ (made_plain (SectionError s.index) (λ e. refl) (first_of (data_faults s)))
    (if_plain (list_any (λ r. r.symbol_index == 0) (relocations s)) UnsupportedRelocationTarget refl))

stated_plain : (bytes : List ℕ) → Plain (strict_text_fault bytes)
unfolding strict_text_fault
stated_plain bytes = rows_plain ((nat_lt (length bytes) 2, InvalidLicense bytes) ∷ (not (has_zero bytes), MissingLicenseNullTerminator bytes) ∷ (has_zero (front_of bytes), InvalidLicense bytes) ∷ []) (refl, (refl, (refl, tt)))

license_text_plain : (mode : ParseMode) (bytes : List ℕ) → Plain (license_text_fault mode bytes)
unfolding license_text_fault
license_text_plain Strict bytes = stated_plain bytes
license_text_plain Lenient bytes = unless_plain _ (strict_text_fault bytes) (stated_plain bytes)

license_in_plain : (mode : ParseMode) (s : Option SectionOf) → Plain (license_fault_in mode s)
license_in_plain mode None = refl
license_in_plain mode (Some s) = either told (section_fault s) _ (section_plain s) (license_text_plain mode (section_of s).bytes)

license_plain : (mode : ParseMode) (bytes : List ℕ) → Plain (license_fault_as mode bytes)
unfolding license_fault_as
license_plain mode bytes = license_in_plain mode _

version_in_plain : (s : Option SectionOf) → Plain (version_fault_in s)
unfolding version_number_fault
version_in_plain None = refl
version_in_plain (Some s) = either told (section_fault s) _ (section_plain s) (rows_plain ((not (length (section_of s).bytes == 4), InvalidKernelVersion (section_of s).bytes) ∷ []) (refl, tt))

version_plain : (bytes : List ℕ) → Plain (version_fault bytes)
unfolding version_fault
version_plain bytes = version_in_plain _

symbol_plain : (s : SymbolOf) → Plain (symbol_fault s)
symbol_plain s = unless_plain (is_some (symbol_name s)) (Some (BtfError InvalidSymbolName)) refl

types_in_plain : (o : Endianness) (s : Option SectionOf) → Plain (types_fault_in o s)
types_in_plain o None = refl
types_in_plain o (Some s) = either told (section_fault s) _ (section_plain s) (made_plain BtfError (λ e. refl) _)

ext_in_plain : (mode : ParseMode) (o : Endianness) (types : TypeInfo) (s : Option SectionOf) → Plain (ext_fault_in mode o types s)
ext_in_plain mode o types None = refl
ext_in_plain mode o types (Some s) = either told (section_fault s) _ (section_plain s) (made_plain BtfError (λ e. refl) _)

ext_plain : (mode : ParseMode) (bytes : List ℕ) (types : Option TypeInfo) → Plain (ext_fault_beside mode bytes types)
ext_plain mode bytes None = refl
ext_plain mode bytes (Some types) = ext_in_plain mode (ei_data bytes) types (ext_section bytes)

file_types_plain : (mode : ParseMode) (bytes : List ℕ) → Plain (file_types_fault mode bytes)
unfolding file_types_fault btf_fault ext_fault
file_types_plain mode bytes = either told _ _ (types_in_plain (ei_data bytes) (types_section bytes)) (ext_plain mode bytes (btf_of bytes))

beside_plain : (ys : List SymbolValue) (types : Option TypeInfo) → Plain (externs_fault_beside ys types)
beside_plain ys None = refl
beside_plain ys (Some types) = made_plain BtfError (λ e. refl) _

externs_plain : (bytes : List ℕ) → Plain (file_externs_fault bytes)
unfolding file_externs_fault
externs_plain bytes = beside_plain (file_symbols bytes) (btf_of bytes)

-- ---- what sections hold

conflict_plain : (section : ℕ) (o : Option ℕ) → Plain (conflict_fault_at section o)
conflict_plain section None = refl
conflict_plain section (Some a) = refl

begins_plain : (s : SectionValue) (offset : ℕ) (o : Option SymbolValue) → Plain (text_fault_of s offset o)
unfolding code_faults
begins_plain s offset None = refl
begins_plain s offset (Some y) =
    either told _ _ (rows_plain ((y.size == 0 || nat_lt (length s.bytes) (offset + y.size), InvalidSymbol y.index (Some y.name)) ∷ []) (refl, tt))
    (either told _ _ (rows_plain (code_faults (text_function_bytes s offset y)) (refl, tt)) refl)

text_plain : (s : SectionValue) (ys : List SymbolValue) → Plain (text_fault s ys)
unfolding text_fault conflict_fault text_fault_at
text_plain s ys =
    either told _ _ (conflict_plain s.index.0 (repeated ys)) (plain_all (text_fault_at s ys) (λ offset. begins_plain s offset (symbol_at_offset s ys offset)) (offsets s ys))

program_plain : (s : SectionValue) (y : SymbolValue) → Plain (program_fault s y)
unfolding program_fault code_faults
program_plain s y =
    either told _ _ (rows_plain (range_faults s y) (refl, tt)) (either told _ _ (rows_plain (code_faults (program_bytes s y)) (refl, tt)) refl)

behind_name : (s : SectionValue) (ys : List SymbolValue) → Plain (or_else (first_of ((length ys == 0, NoSymbolsForSection s.name) ∷ [])) (programs_fault s ys))
behind_name s ys = either told _ _ (rows_plain ((length ys == 0, NoSymbolsForSection s.name) ∷ []) (refl, tt)) (plain_all (program_fault s) (program_plain s) (filter is_program_symbol ys))

data_plain : (s : SectionValue) → Plain (data_map_fault s)
unfolding data_map_fault
data_plain s = rows_plain ((not (nat_lt s.size (2 ^ 32)), InvalidMapDefinition s.name) ∷ []) (refl, tt)

struct_plain : (s : SectionValue) (y : SymbolValue) → Plain (legacy_fault s y)
unfolding legacy_fault
struct_plain s y =
    rows_plain ((nat_lt (length s.bytes) (y.address + y.size), InvalidSymbol y.index (Some y.name)) ∷ (nat_lt y.size 20, InvalidMapDefinition y.name) ∷ (nat_lt 1 (word_at (struct_bytes s y) 24), InvalidMapDefinition y.name) ∷ [])
    (refl, (refl, (refl, tt)))

structs_plain : (s : SectionValue) (ys : List SymbolValue) → Plain (legacy_maps_fault s ys)
unfolding legacy_maps_fault
structs_plain s ys = either told _ _ (rows_plain ((length ys == 0, NoSymbolsForSection s.name) ∷ []) (refl, tt)) (plain_all (legacy_fault s) (struct_plain s) ys)

module _ (numbers : List ℕ → Option ℕ) (section : ℕ) where
  numbered_plain : (d : List ℕ × MapDefinitions) (o : Option ℕ) → Plain (fault_of {X = List ℕ × Map} (if_some o (λ y. Ok (d.0, map_at d.1 section y)) (Err (SymbolNotFound d.0))))
  numbered_plain d None = refl
  numbered_plain d (Some y) = refl

  placed_plain : (r : Result (List ℕ × MapDefinitions) TypeError) → Plain (fault_of (map_with_symbol numbers section r))
  placed_plain (Err e) = refl
  placed_plain (Ok d) = numbered_plain d (numbers d.0)

  met_plain : (mode : ParseMode) (info : TypeInfo) (met : Option DatasecMatch) → Plain (fault_of_entries mode info numbers section met)
  unfolding entry_map
  met_plain mode info None = refl
  met_plain mode info (Some (UnreadableName e)) = refl
  met_plain mode info (Some (Named entries)) = plain_all (λ entry. fault_of (entry_map mode info numbers section entry)) (λ entry. placed_plain (declared mode info entry)) entries

  types_plain : (mode : ParseMode) (info : TypeInfo) (name : List ℕ) → Plain (btf_maps_fault mode info numbers section name)
  unfolding type_maps_fault
  types_plain mode info name = plain_all (type_maps_fault mode info numbers section name) (λ t. met_plain mode info (datasec_match info name t)) info.types

declared_plain : (types : Option TypesInMode) (s : SectionValue) (ys : List SymbolValue) → Plain (btf_defined_maps_fault types s ys)
unfolding btf_defined_maps_fault
declared_plain None s ys = refl
declared_plain (Some d) s ys = either told _ _ (rows_plain ((length ys == 0, NoSymbolsForSection s.name) ∷ []) (refl, tt)) (types_plain _ s.index.0 d.mode d.types s.name)

-- ---- a test that says no of every other fault

module _ (test : Option ParseError → Bool) (plain : (o : Option ParseError) → Plain o → test o ≡ false) (mode : ParseMode)
    (named : (name : List ℕ) → test (no_section name (section_as mode name)) ≡ false) where
  name_passes : (s : SectionValue) (ys : List SymbolValue) → test (program_section_faults mode s ys) ≡ false
  unfolding program_section_faults
  name_passes s ys = either test _ _ (named s.name) (plain _ (behind_name s ys))

  kind_passes : (types : Option TypeInfo) (s : SectionValue) (ys : List SymbolValue) (kind : EbpfSectionKind) → test (fault_by kind mode types s ys) ≡ false
  kind_passes types s ys Programs = name_passes s ys
  kind_passes types s ys Text = plain _ (text_plain s ys)
  kind_passes types s ys Data = plain _ (data_plain s)
  kind_passes types s ys Rodata = plain _ (data_plain s)
  kind_passes types s ys Bss = plain _ (data_plain s)
  kind_passes types s ys Maps = plain _ (structs_plain s ys)
  kind_passes types s ys BtfMaps = plain _ (declared_plain (types_in_mode mode types) s ys)
  kind_passes types s ys _ = plain None refl

  sections_pass : (types : Option TypeInfo) (bytes : List ℕ) → test (sections_fault mode types bytes) ≡ false
  unfolding sections_fault fault_in
  sections_pass types bytes = all_of test (plain None refl) (read_fault mode types bytes)
      (λ s. either test (section_fault s) _ (plain _ (section_plain s)) (kind_passes types (section_of s) (section_symbols (file_symbols bytes) s.index) (section_of s).kind))
      (other_sections bytes)

  -- what follows the order of code
  behind_order : (bytes : List ℕ)
      → test (or_else (license_fault_as mode bytes) (or_else (version_fault bytes) (or_else (symbols_fault bytes) (or_else (file_types_fault mode bytes) (or_else (file_externs_fault bytes) (sections_fault mode (types_of_file bytes) bytes)))))) ≡ false
  behind_order bytes =
      either test _ _ (plain _ (license_plain mode bytes))
      (either test _ _ (plain _ (version_plain bytes))
      (either test _ _ (plain _ (plain_all symbol_fault symbol_plain (symbols bytes)))
      (either test _ _ (plain _ (file_types_plain mode bytes))
      (either test _ _ (plain _ (externs_plain bytes)) (sections_pass (types_of_file bytes) bytes)))))

file_plain : (bytes : List ℕ) → Plain (option_map ElfError (first_in (faults bytes)))
file_plain bytes = made_plain ElfError (λ e. refl) _

-- ---- lenient parsing

no_name : (name : List ℕ) (o : Option ParseError) → Plain o → o ≢ Some (InvalidProgramSection name)
no_name name o plain is = let no : true ≡ false = sym (ap told is) ∙ plain in cc

in_order : (name : List ℕ) (a : Option ParseError) (own : Bool) (machine : ℕ) (ordered : Bool) (rest : Option ParseError) → Plain a → Plain rest
    → or_else a (or_else (if own then None else Some (OtherMachine machine)) (or_else (if ordered then Some BigEndianCode else None) rest)) ≢ Some (InvalidProgramSection name)
in_order name (Some e) own machine ordered rest first later is = no_name name (Some e) first is
in_order name None false machine ordered rest first later is = cc
in_order name None true machine true rest first later is = cc
in_order name None true machine false rest first later is = no_name name rest later is

lenient_name : (name : List ℕ) → Plain (no_section name (section_as Lenient name))
unfolding section_as
lenient_name name = refl

pub lenient_refuses_no_name : LenientRefusesNoName
lenient_refuses_no_name bytes name = in_order name _ (is_for_ebpf bytes) (e_machine bytes) (has_big_endian_code bytes) _ (file_plain bytes) (behind_order told (λ o plain. plain) Lenient lenient_name bytes)

-- ---- strict parsing

from_plain : (o : Option ParseError) → Plain o → says is_big_endian_code o ≡ false
from_plain None plain = refl
from_plain (Some BigEndianCode) plain = absurd (cc)
from_plain (Some _) plain = refl

unnamed : (test : ParseError → Bool) (name : List ℕ) → test (InvalidProgramSection name) ≡ false → (kind : Option ProgramSection) → says test (no_section name kind) ≡ false
unnamed test name other None = other
unnamed test name other (Some kind) = refl

pub strict_takes_both_orders : StrictTakesBothOrders
strict_takes_both_orders bytes is =
    let never : says is_big_endian_code (parse_fault_as Strict bytes) ≡ false =
    either (says is_big_endian_code) _ _ (from_plain _ (file_plain bytes)) (behind_order (says is_big_endian_code) from_plain Strict (λ name. unnamed is_big_endian_code name refl (section_as Strict name)) bytes) in
    let no : true ≡ false = sym (ap (says is_big_endian_code) is) ∙ never in
    cc

no_machine : (o : Option ParseError) → Plain o → says is_other_machine o ≡ false
no_machine None plain = refl
no_machine (Some (OtherMachine _)) plain = absurd (cc)
no_machine (Some _) plain = refl

pub strict_takes_each_machine : StrictTakesEachMachine
strict_takes_each_machine bytes machine is =
    let never : says is_other_machine (parse_fault_as Strict bytes) ≡ false =
    either (says is_other_machine) _ _ (no_machine _ (file_plain bytes)) (behind_order (says is_other_machine) no_machine Strict (λ name. unnamed is_other_machine name refl (section_as Strict name)) bytes) in
    let no : true ≡ false = sym (ap (says is_other_machine) is) ∙ never in
    cc

-- ---- the fault of a limit

abbrev is_too_large : ParseError → Bool
is_too_large (TooLarge _) = true
is_too_large _ = false

small : (o : Option ParseError) → Plain o → says is_too_large o ≡ false
small None plain = refl
small (Some (TooLarge _)) plain = absurd (cc)
small (Some _) plain = refl

small_order : (mode : ParseMode) (bytes : List ℕ) → says is_too_large (order_fault_as mode bytes) ≡ false
small_order Strict bytes = refl
small_order Lenient bytes = elim (has_big_endian_code bytes) as (λ b. says is_too_large (if b then Some BigEndianCode else None) ≡ false) [
  | true ↦ refl
  | false ↦ refl
]

small_machine : (mode : ParseMode) (bytes : List ℕ) → says is_too_large (machine_fault_as mode bytes) ≡ false
small_machine Strict bytes = refl
small_machine Lenient bytes = elim (is_for_ebpf bytes) as (λ b. says is_too_large (if b then None else Some (OtherMachine (e_machine bytes))) ≡ false) [
  | true ↦ refl
  | false ↦ refl
]

pub never_too_large : (mode : ParseMode) (bytes : List ℕ) (most : ℕ) → parse_fault_as mode bytes ≢ Some (TooLarge most)
never_too_large mode bytes most is =
    let never : says is_too_large (parse_fault_as mode bytes) ≡ false =
    either (says is_too_large) _ _ (small _ (file_plain bytes))
    (either (says is_too_large) _ _ (small_machine mode bytes)
    (either (says is_too_large) _ _ (small_order mode bytes) (behind_order (says is_too_large) small mode (λ name. unnamed is_too_large name refl (section_as mode name)) bytes))) in
    let no : true ≡ false = sym (ap (says is_too_large) is) ∙ never in
    cc
