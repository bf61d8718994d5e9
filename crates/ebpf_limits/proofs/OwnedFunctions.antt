-- The functions and the programs of a file, by its symbols.
use Rattle.std.proofs.Common.{◌≡◌, ℕ, ◌+◌, ◌-◌, ◌*◌, ◌/◌, ◌%◌, ◌^◌, ◌<◌, ◌≤◌, Bool, true, false, List, [], filter, length, Option, Some, refl, arith, zero, suc, cond, ◌∷◌, map, None, sym, ap, subst, ◌∙◌, eqb-true}
use Rattle.std.specs.Prelude.{slice_range, ◌==◌, if◌then◌else◌, unwrap_or, nat_lt}
use Rattle.std.proofs.lemmas.List.{length-take, length-drop, length-map}
use Rattle.std.proofs.lemmas.List.FromFn.{length-map-range_with_len}
use Rattle.std.specs.FinMap.{entries}
use Rattle.std.specs.List.{AllByRecursion}
use Rattle.std.proofs.lemmas.Bool.Decides.{nat_tests}
use Rattle.std.proofs.lemmas.Bool.{and_parts}
use Rattle.ebpf_base.proofs.Maps.{key_exact}
use Rattle.ebpf_base.specs.Maps.{key_total, text_total}
use Rattle.ebpf_elf.specs.Headers.{range_of}
use Rattle.ebpf_elf.specs.Sections.{SectionOf, header, data_of, sections}
use Rattle.ebpf_elf.specs.Symbols.{SymbolOf, entry, symbols, symbol_name, symbol_kind, symbol_section_index}
use Rattle.ebpf_elf.specs.declared.constants.TheConstants.{SHT_NOBITS}
use Rattle.ebpf_elf.specs.declared.symbol.SymbolEntry.{SymbolEntry}
use Rattle.ebpf_btf_ext.specs.ExtReading.{ExtInfo}
use Rattle.ebpf_model.specs.Symbols.{FunctionKey}
use Rattle.ebpf_model.specs.declared.function.Function.{Function}
use Rattle.ebpf_parsing.specs.FileContents.{own_symbols, functions, function_entries, programs_as, program_entries}
use Rattle.ebpf_parsing.specs.OfSection.{functions_by, functions_in, programs_by, programs_in}
use Rattle.ebpf_parsing.specs.FileTypes.{ext_of}
use Rattle.ebpf_parsing.specs.LicenseAndVersion.{license_as, kernel_version_of}
use Rattle.ebpf_parsing.specs.Programs.{is_program_symbol, program_function, with_key, program_of, programs_of}
use Rattle.ebpf_parsing.specs.Texts.{address_at, function_at, text_function, text_function_of, symbol_at_offset, is_text_at, offsets_from, offsets, size_at}
use Rattle.ebpf_parsing.specs.Records.{is_func_at, is_line_in, slot_of_func, slot_of_line, slot_of, rises_from, FuncAndLineInfo, func_and_line_info_of, funcs_at, lines_in, func_from, line_from}
use Rattle.ebpf_parsing.specs.Sections.{object_sections}
use Rattle.ebpf_parsing.specs.Symbols.{symbol_of, SymbolValue, is_text_symbol}
use Rattle.ebpf_parts.specs.Sections.{SectionValue, section_of, section_with}
use Rattle.ebpf_parts.specs.Slots.{slots_of, slot_at}
use Rattle.ebpf_parts.specs.declared.section.EbpfSectionKind.{EbpfSectionKind}
use Rattle.ebpf_parts.specs.declared.section.EbpfSectionKind.TheVariants.{Text, Program as Programs}
use Rattle.ebpf_base.proofs.TextMaps.{text_exact}
use Rattle.ebpf_model.specs.declared.function.Program.{Program}
use Rattle.ebpf_parts.specs.ProgramTypes.{section_as}
use Rattle.ebpf_parts.specs.declared.program_section.ProgramSection.{ProgramSection}
use Rattle.ebpf_parts.specs.declared.parse_mode.ParseMode.{ParseMode}
use Rattle.ebpf_limits.proofs.Counts.{filter_short, Among, Counted, covered, all_map, all_flat_map, all_filter, each_at, found_among, name_within}
use Rattle.ebpf_limits.proofs.OwnedTables.{facts_in, function_in, its_facts, its_name, its_function, sections_all, symbols_all, facts_here, file_of, program_in, its_program}
use Rattle.ebpf_limits.specs.OwnedBytes.{SectionFacts, function_size, program_size, slot_size, func_count, line_count, offset_by, first_slot, code_bytes, record_bytes, function_bytes, facts_of, facts_at, function_row, total, program_row}

-- ---- the bytes of a function's code and records, no more than what is counted for its symbol.

-- ---- code

slots_length : (bytes : List ℕ) → 8 * length (slots_of bytes) ≤ length bytes
unfolding slots_of
slots_length bytes = let count = length-map-range_with_len (λ k. slot_at bytes (8 * k)) 0 (length bytes / 8) in omega (arith, count)

pub range_short : (bytes : List ℕ) (from n : ℕ) → length (slice_range bytes from (from + n)) ≤ n
range_short bytes from n = simp (length-take, length-drop) (omega arith)

range_within : (bytes : List ℕ) (from n : ℕ) → length (slice_range bytes from (from + n)) ≤ length bytes
range_within bytes from n = simp (length-take, length-drop) (omega arith)

-- a section's data is no longer than its size, or the file
pub data_short : (s : SectionOf) → length (data_of s) ≤ (header s).sh_size
unfolding data_of
data_short s = elim ((header s).sh_type == SHT_NOBITS) as (λ b. length (if b then [] else range_of s.file (header s)) ≤ (header s).sh_size) [
  | true ↦ omega arith
  | false ↦ range_short s.file (header s).sh_offset (header s).sh_size
]

pub data_within : (s : SectionOf) → length (data_of s) ≤ length s.file
unfolding data_of
data_within s = elim ((header s).sh_type == SHT_NOBITS) as (λ b. length (if b then [] else range_of s.file (header s)) ≤ length s.file) [
  | true ↦ omega arith
  | false ↦ range_within s.file (header s).sh_offset (header s).sh_size
]

pub code_within : (f : SectionFacts) (e : SymbolEntry) (bytes : List ℕ) (from : ℕ) → length bytes ≤ f.size → 8 * length (slots_of (slice_range bytes from (from + e.st_size))) ≤ code_bytes f e
code_within f e bytes from short =
    let slots = slots_length (slice_range bytes from (from + e.st_size)) in
    let a = range_short bytes from e.st_size in
    let b = range_within bytes from e.st_size in
    omega (arith, slots, a, b, short)

-- ---- records

pub funcs_within : (f : SectionFacts) (first : ℕ) → length (filter (is_func_at first) f.funcs) ≤ func_count f first
funcs_within f first = elim (rises_from slot_of_func 0 f.funcs) as (λ b. length (filter (is_func_at first) f.funcs) ≤ (if b then length (filter (is_func_at first) f.funcs) else length f.funcs)) [
  | true ↦ omega arith
  | false ↦ filter_short (is_func_at first) f.funcs
]

pub lines_within : (f : SectionFacts) (first count : ℕ) → length (filter (is_line_in first count) f.lines) ≤ line_count f first count
lines_within f first count = elim (rises_from slot_of_line 0 f.lines) as (λ b. length (filter (is_line_in first count) f.lines) ≤ (if b then length (filter (is_line_in first count) f.lines) else length f.lines)) [
  | true ↦ omega arith
  | false ↦ filter_short (is_line_in first count) f.lines
]

-- ---- places

pub place_in_code : (kind : EbpfSectionKind) (start address : ℕ) → kind ≡ Programs → offset_by kind start address ≡ address - start
place_in_code kind start address e = rw e refl

pub place_in_text : (kind : EbpfSectionKind) (start address offset : ℕ) → kind ≡ Text → address ≡ (start + offset) % 2 ^ 64 → offset < 2 ^ 64 → offset_by kind start address ≡ offset
place_in_text kind start address offset e here below = rw e (omega (arith, here, below))

-- ---- a function's row

pub row_within : (name short : ℕ) (f : SectionFacts) (e : SymbolEntry) (slots funcs lines : ℕ) → short ≤ name → 8 * slots ≤ code_bytes f e
    → funcs ≤ func_count f (first_slot f e) → lines ≤ line_count f (first_slot f e) (slot_of e.st_size)
    → function_size + short + slot_size * slots + record_bytes funcs lines ≤ function_bytes name f e
unfolding function_bytes
row_within name short f e slots funcs lines a b c d = omega (arith, a, b, c, d)

pub function_here : (o : Option SectionFacts) (f : SectionFacts) (t : Bool) (named : ℕ) (e : SymbolEntry) → o ≡ Some f → t ≡ true → f.kind ≡ Programs → function_in o t named e ≡ function_bytes named f e
function_here o f t named e a b c = rw (a, b, c) refl

pub text_here : (o : Option SectionFacts) (f : SectionFacts) (t : Bool) (named : ℕ) (e : SymbolEntry) → o ≡ Some f → t ≡ true → f.kind ≡ Text → function_in o t named e ≡ function_bytes named f e
text_here o f t named e a b c = rw (a, b, c) refl

-- ---- the functions of a file, by its symbols

-- the offsets where functions begin are inside the data
offsets_inside : (s : SectionValue) (ys : List SymbolValue) (left offset : ℕ) → AllByRecursion (λ o. o < length s.bytes) (offsets_from left s ys offset)
unfolding offsets_from
offsets_inside s ys zero offset = tt
offsets_inside s ys (suc left) offset =
    elim (nat_lt offset (length s.bytes)) as (λ b. nat_lt offset (length s.bytes) ≡ b → AllByRecursion (λ o. o < length s.bytes) (cond b (offset ∷ offsets_from left s ys (offset + size_at s ys offset)) [])) [
      | true ↦ λ below. (grind (arith, nat_tests, below), offsets_inside s ys left (offset + size_at s ys offset))
      | false ↦ λ past. tt
    ] refl

module _ (file : List ℕ) (license : ℕ) (ext : Option ExtInfo) where
  abbrev key_of : SymbolOf → ℕ × ℕ
  key_of y = (unwrap_or (symbol_section_index (entry y)) 0, (entry y).st_value)

  abbrev IsFunction : FunctionKey × Function → Type 0
  IsFunction = Counted key_total key_exact key_of function_row (its_function file license (facts_in file ext)) (symbols file)

  module _ (s : SectionOf) (of_file : Among s (sections file)) where
    abbrev infos : FuncAndLineInfo
    infos = func_and_line_info_of ext (section_of s).name

    abbrev own : List SymbolValue
    own = own_symbols file (section_of s)

    one_key : (y : SymbolOf) → symbol_section_index (entry y) ≡ Some s.index → key_of y ≡ (s.index, (entry y).st_value)
    one_key y inside = ap (λ (o : Option ℕ). (unwrap_or o 0, (entry y).st_value)) inside

    -- ---- programs

    one_program : (y : SymbolOf) → Among y (symbols file) → symbol_section_index (entry y) ≡ Some s.index → (section_of s).kind ≡ Programs
        → is_text_symbol (symbol_of y).kind ≡ true → IsFunction (with_key (program_function infos (section_of s) (symbol_of y)))
    unfolding symbol_of section_of section_with facts_of program_function funcs_at lines_in
    one_program y here inside code is_text =
        let f = facts_of ext s in
        let e = entry y in
        let facts : its_facts file license (facts_in file ext) y ≡ Some f = ap (facts_at (facts_in file ext)) inside ∙ facts_here file ext s of_file in
        let counts : its_function file license (facts_in file ext) y ≡ function_bytes (its_name file license (facts_in file ext) y) f e = function_here (its_facts file license (facts_in file ext) y) f _ (its_name file license (facts_in file ext) y) e facts is_text code in
        let place : first_slot f e ≡ slot_of (e.st_value - f.address) = ap slot_of (place_in_code f.kind f.address e.st_value code) in
        let named = name_within file (symbol_name y) in
        let funcs : length (map (func_from (slot_of (e.st_value - f.address))) (filter (is_func_at (slot_of (e.st_value - f.address))) f.funcs)) ≤ func_count f (first_slot f e) =
        (let few = funcs_within f (slot_of (e.st_value - f.address)) in rw (length-map (filter (is_func_at (slot_of (e.st_value - f.address))) f.funcs) (func_from (slot_of (e.st_value - f.address))), place) few) in
        let lines : length (map (line_from (slot_of (e.st_value - f.address))) (filter (is_line_in (slot_of (e.st_value - f.address)) (slot_of e.st_size)) f.lines)) ≤ line_count f (first_slot f e) (slot_of e.st_size) =
        (let few = lines_within f (slot_of (e.st_value - f.address)) (slot_of e.st_size) in rw (length-map (filter (is_line_in (slot_of (e.st_value - f.address)) (slot_of e.st_size)) f.lines) (line_from (slot_of (e.st_value - f.address))), place) few) in
        let row = row_within (its_name file license (facts_in file ext) y) (length (unwrap_or (symbol_name y) [])) f e _ _ _ (omega (arith, named)) (code_within f e (data_of s) e.st_value (data_short s)) funcs lines in
        (y, here, one_key y inside, omega (arith, counts, row))

    -- ---- functions of a text section

    one_text : length file < 2 ^ 64 → (offset : ℕ) → offset < length (data_of s) → (y : SymbolOf) → Among y (symbols file) → symbol_section_index (entry y) ≡ Some s.index → (section_of s).kind ≡ Text
        → is_text_at (address_at (section_of s) offset) (symbol_of y) ≡ true → IsFunction (with_key (text_function infos (section_of s) offset (symbol_of y)))
    unfolding symbol_of section_of section_with facts_of text_function funcs_at lines_in
    one_text short offset below y here inside code found =
        let f = facts_of ext s in
        let e = entry y in
        let tests = and_parts _ _ found in
        let is_text : is_text_symbol (symbol_kind e) ≡ true = (and_parts _ _ tests.0).0 in
        let at : e.st_value ≡ (f.address + offset) % 2 ^ 64 = eqb-true e.st_value _ tests.1 in
        let facts : its_facts file license (facts_in file ext) y ≡ Some f = ap (facts_at (facts_in file ext)) inside ∙ facts_here file ext s of_file in
        let counts : its_function file license (facts_in file ext) y ≡ function_bytes (its_name file license (facts_in file ext) y) f e = text_here (its_facts file license (facts_in file ext) y) f _ (its_name file license (facts_in file ext) y) e facts is_text code in
        let whole : length (data_of s) ≤ length file = subst (λ b. length (data_of s) ≤ length b) (file_of file s of_file) (data_within s) in
        let place : first_slot f e ≡ slot_of offset = ap slot_of (place_in_text f.kind f.address e.st_value offset code at (omega (arith, whole, below, short))) in
        let named = name_within file (symbol_name y) in
        let funcs : length (map (func_from 0) (filter (is_func_at (slot_of offset)) f.funcs)) ≤ func_count f (first_slot f e) =
        (let few = funcs_within f (slot_of offset) in rw (length-map (filter (is_func_at (slot_of offset)) f.funcs) (func_from 0), place) few) in
        let lines : length (map (line_from 0) (filter (is_line_in (slot_of offset) (slot_of e.st_size)) f.lines)) ≤ line_count f (first_slot f e) (slot_of e.st_size) =
        (let few = lines_within f (slot_of offset) (slot_of e.st_size) in rw (length-map (filter (is_line_in (slot_of offset) (slot_of e.st_size)) f.lines) (line_from 0), place) few) in
        let row = row_within (its_name file license (facts_in file ext) y) (length (unwrap_or (symbol_name y) [])) f e _ _ _ (omega (arith, named)) (code_within f e (data_of s) offset (data_short s)) funcs lines in
        (y, here, one_key y inside, omega (arith, counts, row))

    -- ---- both kinds

    programs_counted : (section_of s).kind ≡ Programs → AllByRecursion IsFunction (map with_key (map (program_function infos (section_of s)) (filter is_program_symbol own)))
    unfolding section_of section_with
    programs_counted code =
        let row : SymbolValue → Function = program_function infos (section_of s) in
        all_map IsFunction with_key (map row (filter is_program_symbol own)) (all_map (λ g. IsFunction (with_key g)) row (filter is_program_symbol own)
        (all_filter (λ y. IsFunction (with_key (row y))) is_program_symbol own
        (symbols_all file (λ y. is_program_symbol y ≡ true → IsFunction (with_key (row y))) s.index (λ y here inside passes. one_program y here inside code (and_parts _ _ passes).0))))

    text_found : length file < 2 ^ 64 → (section_of s).kind ≡ Text → (offset : ℕ) → offset < length (data_of s) → (o : Option SymbolValue) → symbol_at_offset (section_of s) own offset ≡ o
        → AllByRecursion (λ g. IsFunction (with_key g)) (text_function_of infos (section_of s) offset o)
    unfolding section_of section_with symbol_at_offset
    text_found short code offset below None e = tt
    text_found short code offset below (Some y) e =
        let found = found_among (is_text_at (address_at (section_of s) offset)) own y e in
        let each = symbols_all file (λ y. is_text_at (address_at (section_of s) offset) y ≡ true → IsFunction (with_key (text_function infos (section_of s) offset y))) s.index (λ y here inside passes. one_text short offset below y here inside code passes) in
        (each_at _ own each y found.0 found.1, tt)

    texts_counted : length file < 2 ^ 64 → (section_of s).kind ≡ Text → (os : List ℕ) → AllByRecursion (λ o. o < length (data_of s)) os → AllByRecursion (λ o. AllByRecursion (λ g. IsFunction (with_key g)) (function_at infos (section_of s) own o)) os
    unfolding function_at
    texts_counted short code [] below = tt
    texts_counted short code (o ∷ os) below = (text_found short code o below.0 (symbol_at_offset (section_of s) own o) refl, texts_counted short code os below.1)

    text_counted : length file < 2 ^ 64 → (section_of s).kind ≡ Text → AllByRecursion IsFunction (map with_key (functions_by Text infos (section_of s) own))
    unfolding section_of section_with
    text_counted short code =
        all_map IsFunction with_key _ (all_flat_map (λ g. IsFunction (with_key g)) (function_at infos (section_of s) own) (offsets (section_of s) own)
        (texts_counted short code (offsets (section_of s) own) (offsets_inside (section_of s) own (length (section_of s).bytes) 0)))

    of_kind : length file < 2 ^ 64 → (kind : EbpfSectionKind) → (section_of s).kind ≡ kind → AllByRecursion IsFunction (map with_key (functions_by kind infos (section_of s) own))
    of_kind short Programs code = programs_counted code
    of_kind short Text code = text_counted short code
    of_kind short _ other = tt

module _ (file : List ℕ) (license : ℕ) where
  with_records : length file < 2 ^ 64 → total function_row (entries (functions file)) ≤ total (its_function file license (facts_in file (ext_of file))) (symbols file)
  unfolding functions function_entries functions_in
  with_records short =
      let ext = ext_of file in
      covered key_total key_exact (key_of file license ext) function_row (its_function file license (facts_in file ext)) (function_entries ext file) (symbols file)
      (all_flat_map (IsFunction file license ext) (λ s. functions_in ext s (own_symbols file s)) (object_sections file)
      (sections_all file (λ s. AllByRecursion (IsFunction file license ext) (functions_in ext s (own_symbols file s))) (λ s here. of_kind file license ext s here short (section_of s).kind refl)))

  pub functions_owned : (ext : Option ExtInfo) → ext ≡ ext_of file → length file < 2 ^ 64 → total function_row (entries (functions file)) ≤ total (its_function file license (facts_in file ext)) (symbols file)
  functions_owned ext same short =
      subst (λ x. total function_row (entries (functions file)) ≤ total (its_function file license (facts_in file x)) (symbols file)) (sym same) (with_records short)

-- ---- the programs of a file, by its symbols.

program_here : (o : Option SectionFacts) (f : SectionFacts) (t : Bool) (license name : ℕ) → o ≡ Some f → f.kind ≡ Programs → t ≡ true → program_in o t license name ≡ program_size + name + license
program_here o f t license name a b c = rw (a, b, c) refl

module _ (mode : ParseMode) (file : List ℕ) (license : ℕ) (ext : Option ExtInfo) where
  abbrev name_of : SymbolOf → List ℕ
  name_of y = unwrap_or (symbol_name y) []

  abbrev IsProgram : List ℕ × Program → Type 0
  IsProgram = Counted text_total text_exact name_of program_row (its_program file license (facts_in file ext)) (symbols file)

  module _ (words : List ℕ) (short : length words ≤ license) (version : Option ℕ) (s : SectionOf) (of_file : Among s (sections file)) where
    program_counted : (kind : ProgramSection) (y : SymbolOf) → Among y (symbols file) → symbol_section_index (entry y) ≡ Some s.index → (section_of s).kind ≡ Programs
        → is_text_symbol (symbol_of y).kind ≡ true → IsProgram (program_of words version (section_of s) kind (symbol_of y))
    unfolding symbol_of section_of section_with facts_of
    program_counted kind y here inside code is_text =
        let facts : its_facts file license (facts_in file ext) y ≡ Some (facts_of ext s) = ap (facts_at (facts_in file ext)) inside ∙ facts_here file ext s of_file in
        let counts : its_program file license (facts_in file ext) y ≡ program_size + its_name file license (facts_in file ext) y + license = program_here (its_facts file license (facts_in file ext) y) (facts_of ext s) _ license (its_name file license (facts_in file ext) y) facts code is_text in
        let named = name_within file (symbol_name y) in
        (y, here, refl, omega (arith, counts, named, short))

    each_program : (kind : Option ProgramSection) → (section_of s).kind ≡ Programs → AllByRecursion IsProgram (programs_of words version (section_of s) (own_symbols file (section_of s)) kind)
    unfolding section_of section_with
    each_program None code = tt
    each_program (Some kind) code =
        let row : SymbolValue → List ℕ × Program = program_of words version (section_of s) kind in
        all_map IsProgram row (filter is_program_symbol (own_symbols file (section_of s)))
        (all_filter (λ y. IsProgram (row y)) is_program_symbol (own_symbols file (section_of s))
        (symbols_all file (λ y. is_program_symbol y ≡ true → IsProgram (row y)) s.index (λ y here inside passes. program_counted kind y here inside code (and_parts _ _ passes).0)))

    programs_of_kind : (kind : EbpfSectionKind) → (section_of s).kind ≡ kind → AllByRecursion IsProgram (programs_by kind mode words version (section_of s) (own_symbols file (section_of s)))
    programs_of_kind Programs code = each_program (section_as mode (section_of s).name) code
    programs_of_kind _ other = tt

  pub programs_owned : length (license_as mode file) ≤ license → total program_row (entries (programs_as mode file)) ≤ total (its_program file license (facts_in file ext)) (symbols file)
  unfolding programs_as program_entries programs_in
  programs_owned short =
      let words = license_as mode file in
      let version = kernel_version_of file in
      covered text_total text_exact name_of program_row (its_program file license (facts_in file ext)) (program_entries mode words version file) (symbols file)
      (all_flat_map IsProgram (λ s. programs_in mode words version s (own_symbols file s)) (object_sections file)
      (sections_all file (λ s. AllByRecursion IsProgram (programs_in mode words version s (own_symbols file s))) (λ s here. programs_of_kind words short version s here (section_of s).kind refl)))
