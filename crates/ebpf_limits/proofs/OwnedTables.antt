-- What the sections and symbols of a file give to its tables, by the sections and symbols of the file: names, symbols, externs, and what a symbol gives beside its own entry.
use Rattle.std.proofs.Common.{map, ℕ, ◌+◌, ◌≤◌, Bool, true, false, List, [], ◌∷◌, Option, Some, None, arith, ◌≡◌, zero, suc, ◌-◌, not, ◌++◌, option_map, refl, sym, ap, subst, ◌∙◌, slice_get, eqb-true, length, Result, Ok, Err}
use Rattle.std.specs.Prelude.{codes, unwrap_or}
use Rattle.std.specs.FinMap.{entries, empty, nat_cmp-IsAntisymmetric}
use Rattle.std.specs.Cmp.{nat_cmp_total}
use Rattle.std.specs.List.{AllByRecursion, find, range_with_len, flat_map}
use Rattle.std.proofs.lemmas.Option.{slice_get-map}
use Rattle.std.specs.Ordering.{eq_by_cmp}
use Rattle.ebpf_elf.specs.Sections.{sections, SectionOf, section_name}
use Rattle.ebpf_elf.specs.Symbols.{SymbolOf, entry, symbol_name, symbol_kind, symbol_section_index, symbols}
use Rattle.ebpf_elf.specs.declared.symbol.SymbolEntry.{SymbolEntry}
use Rattle.ebpf_btf_ext.specs.ExtReading.{ExtInfo}
use Rattle.ebpf_parsing.specs.Symbols.{is_text_symbol, file_symbols, symbol_of, symbol_entry, symbol_table, SymbolValue, is_in_section, section_symbols, weak_named}
use Rattle.ebpf_parts.specs.declared.section.EbpfSectionKind.{EbpfSectionKind}
use Rattle.ebpf_parts.specs.declared.section.EbpfSectionKind.TheVariants.{Undefined, Maps, BtfMaps, Program as Programs, Data, Rodata, Bss, Text, Btf, BtfExt, License, Version}
use Rattle.ebpf_base.specs.Maps.{put_all, text_cmp, text_total}
use Rattle.ebpf_base.proofs.Mapped.{put_all-append}
use Rattle.ebpf_base.proofs.TextMaps.{text_exact}
use Rattle.ebpf_elf.specs.Names.{is_name}
use Rattle.ebpf_elf.specs.declared.section.SectionIndex.{SectionIndex}
use Rattle.ebpf_parsing.specs.Sections.{object_sections, other_sections, is_type_information, section_info_entry}
use Rattle.ebpf_parsing.specs.FileContents.{section_infos, name_entries}
use Rattle.ebpf_parsing.specs.FileTypes.{names_in, type_names, ext_names, ext_names_beside, type_info_names, btf_of, externs_of, externs_beside}
use Rattle.ebpf_btf.specs.TypeInfo.{TypeInfo}
use Rattle.ebpf_parts.specs.Sections.{SectionValue, section_of, section_with, name_or_empty}
use Rattle.ebpf_base.specs.Faults.{if_ok}
use Rattle.ebpf_btf.specs.Next.{if_some}
use Rattle.ebpf_base.proofs.Maps.{entries-empty, is_equal}
use Rattle.ebpf_btf.specs.Steps.{type_at, resolved}
use Rattle.ebpf_btf.specs.Strings.{type_name}
use Rattle.ebpf_btf.specs.declared.error.BtfError.{BtfError}
use Rattle.ebpf_btf.specs.declared.members.DataSecEntry.{DataSecEntry}
use Rattle.ebpf_btf_decls.specs.DataSections.{given, matched_entries}
use Rattle.ebpf_btf_decls.specs.Externs.{extern_of, new_extern, extern_types, ksyms_datasec}
use Rattle.ebpf_model.specs.declared.symbol.ExternDesc.{ExternDesc}
use Rattle.ebpf_limits.specs.OwnedBytes.{facts_of, SectionFacts, facts_at, function_bytes, name_bytes, placed_by, placed_in, symbol_bytes, total, section_entry_bytes, extern_row, section_row, symbol_row, extern_size, map_size, program_size, symbol_size}
use Rattle.ebpf_limits.proofs.Counts.{Among, Counted, covered, all_append, all_map, all_flat_map, all_filter, all_of, found_among, name_within, each_at}

-- ---- what a symbol gives beside its own entry, in parts.

-- the facts of all sections of a file, beside what is read of `.BTF.ext`
abbrev pub facts_in : List ℕ → Option ExtInfo → List SectionFacts
facts_in file ext = map (facts_of ext) (sections file)

-- a function, a program, a map
abbrev pub function_by : EbpfSectionKind → Bool → ℕ → SectionFacts → SymbolEntry → ℕ
function_by Text true name f e = function_bytes name f e
function_by Programs true name f e = function_bytes name f e
function_by _ is_text name f e = 0

abbrev pub program_by : EbpfSectionKind → Bool → ℕ → ℕ → ℕ
program_by Programs true license name = program_size + name + license
program_by _ is_text license name = 0

abbrev pub map_by : EbpfSectionKind → ℕ → ℕ
map_by Maps name = map_size + name
map_by BtfMaps name = map_size + name
map_by _ name = 0

abbrev pub function_in : Option SectionFacts → Bool → ℕ → SymbolEntry → ℕ
function_in None is_text name e = 0
function_in (Some f) is_text name e = function_by f.kind is_text name f e

abbrev pub program_in : Option SectionFacts → Bool → ℕ → ℕ → ℕ
program_in None is_text license name = 0
program_in (Some f) is_text license name = program_by f.kind is_text license name

abbrev pub map_in : Option SectionFacts → ℕ → ℕ
map_in None name = 0
map_in (Some f) name = map_by f.kind name

-- together they are what the symbol gives
parts_by : (kind : EbpfSectionKind) (t : Bool) (license name : ℕ) (f : SectionFacts) (e : SymbolEntry)
    → function_by kind t name f e + (program_by kind t license name + map_by kind name) ≤ placed_by kind t license name f e
parts_by Text true license name f e = omega arith
parts_by Text false license name f e = omega arith
parts_by Programs true license name f e = omega arith
parts_by Programs false license name f e = omega arith
parts_by Maps t license name f e = omega arith
parts_by BtfMaps t license name f e = omega arith
parts_by Undefined t license name f e = omega arith
parts_by Data t license name f e = omega arith
parts_by Rodata t license name f e = omega arith
parts_by Bss t license name f e = omega arith
parts_by Btf t license name f e = omega arith
parts_by BtfExt t license name f e = omega arith
parts_by License t license name f e = omega arith
parts_by Version t license name f e = omega arith

parts_in : (o : Option SectionFacts) (license name : ℕ) (e : SymbolEntry)
    → function_in o (is_text_symbol (symbol_kind e)) name e + (program_in o (is_text_symbol (symbol_kind e)) license name + map_in o name) ≤ placed_in o license name e
parts_in None license name e = omega arith
parts_in (Some f) license name e = parts_by f.kind (is_text_symbol (symbol_kind e)) license name f e

module _ (file : List ℕ) (license : ℕ) (all : List SectionFacts) where
  abbrev pub its_facts : SymbolOf → Option SectionFacts
  its_facts y = facts_at all (symbol_section_index (entry y))

  abbrev pub its_name : SymbolOf → ℕ
  its_name y = name_bytes file (symbol_name y)

  abbrev pub its_symbol : SymbolOf → ℕ
  its_symbol y = symbol_size + its_name y

  abbrev pub its_extern : SymbolOf → ℕ
  its_extern y = extern_size + its_name y

  abbrev pub its_function : SymbolOf → ℕ
  its_function y = function_in (its_facts y) (is_text_symbol (symbol_kind (entry y))) (its_name y) (entry y)

  abbrev pub its_program : SymbolOf → ℕ
  its_program y = program_in (its_facts y) (is_text_symbol (symbol_kind (entry y))) license (its_name y)

  abbrev pub its_map : SymbolOf → ℕ
  its_map y = map_in (its_facts y) (its_name y)

  each_part : (y : SymbolOf) → its_symbol y + its_extern y + (its_function y + (its_program y + its_map y)) ≤ symbol_bytes file license all y
  unfolding symbol_bytes
  each_part y = let parts = parts_in (its_facts y) license (its_name y) (entry y) in omega (arith, parts)

  -- so are those of all symbols
  pub all_parts : (ys : List SymbolOf)
      → total its_symbol ys + total its_extern ys + (total its_function ys + (total its_program ys + total its_map ys)) ≤ total (symbol_bytes file license all) ys
  all_parts [] = omega arith
  all_parts (y ∷ ys) = let first = each_part y in let rest = all_parts ys in omega (arith, first, rest)

-- ---- what the sections and symbols of a file give to its tables, by the sections and symbols of the file.

module _ (file : List ℕ) where
  -- ---- each section, each symbol

  pub sections_all : (P : SectionValue → Type 0) → ((s : SectionOf) → Among s (sections file) → P (section_of s)) → AllByRecursion P (object_sections file)
  sections_all P each =
      all_map P section_of (other_sections file)
      (all_filter (λ s. P (section_of s)) (λ s. not (is_type_information s)) (sections file) (all_of (λ s. not (is_type_information s) ≡ true → P (section_of s)) (sections file) (λ s here passes. each s here)))

  inside : (section : ℕ) (o : Option ℕ) → is_in_section section o ≡ true → o ≡ Some section
  inside section None e = cc
  inside section (Some s) e = ap Some (eqb-true s section e)

  pub symbols_all : (P : SymbolValue → Type 0) (section : ℕ) → ((y : SymbolOf) → Among y (symbols file) → symbol_section_index (entry y) ≡ Some section → P (symbol_of y)) → AllByRecursion P (section_symbols (file_symbols file) section)
  unfolding section_symbols symbol_of
  symbols_all P section each =
      all_filter P (λ y. is_in_section section y.section_index) (file_symbols file)
      (all_map (λ y. is_in_section section y.section_index ≡ true → P y) symbol_of (symbols file)
      (all_of (λ y. is_in_section section (symbol_of y).section_index ≡ true → P (symbol_of y)) (symbols file)
      (λ y here passes. each y here (inside section (symbol_section_index (entry y)) passes))))

  -- ---- the facts of a section, by its index

  abbrev numbered : ℕ → SectionOf
  numbered i = record { file = file; index = i }

  at_place : (a n k : ℕ) (s : SectionOf) → slice_get (map numbered (range_with_len a n)) k ≡ Some s → s.index ≡ a + k
  at_place a zero k s e = absurd (let no : ⊥ = cc in no)
  at_place a (suc n) zero s e = let same : numbered a ≡ s = cc in let here : a ≡ s.index = ap (λ (t : SectionOf). t.index) same in omega (arith, here)
  at_place a (suc n) (suc k) s e = let later = at_place (a + 1) n k s e in omega (arith, later)

  of_numbers : (a n k : ℕ) (s : SectionOf) → slice_get (map numbered (range_with_len a n)) k ≡ Some s → s.file ≡ file
  of_numbers a zero k s e = absurd (let no : ⊥ = cc in no)
  of_numbers a (suc n) zero s e = let same : numbered a ≡ s = cc in sym (ap (λ (t : SectionOf). t.file) same)
  of_numbers a (suc n) (suc k) s e = of_numbers (a + 1) n k s e

  pub file_of : (s : SectionOf) → Among s (sections file) → s.file ≡ file
  file_of s here = of_numbers 1 _ here.0 s here.1

  pub facts_here : (ext : Option ExtInfo) (s : SectionOf) → Among s (sections file) → facts_at (map (facts_of ext) (sections file)) (Some s.index) ≡ Some (facts_of ext s)
  facts_here ext s here =
      let place = at_place 1 _ here.0 s here.1 in
      let index : s.index - 1 ≡ here.0 = omega (arith, place) in
      ap (slice_get (map (facts_of ext) (sections file))) index
      ∙ slice_get-map (facts_of ext) (sections file) here.0
      ∙ ap (option_map (facts_of ext)) here.1

  -- ---- the table of symbols

  pub symbols_owned : total symbol_row (entries (symbol_table (file_symbols file))) ≤ total (λ y. symbol_size + name_bytes file (symbol_name y)) (symbols file)
  unfolding symbol_of
  symbols_owned =
      let P = Counted nat_cmp_total nat_cmp-IsAntisymmetric (λ (y : SymbolOf). y.index) symbol_row (λ y. symbol_size + name_bytes file (symbol_name y)) (symbols file) in
      covered nat_cmp_total nat_cmp-IsAntisymmetric (λ (y : SymbolOf). y.index) symbol_row (λ y. symbol_size + name_bytes file (symbol_name y)) (map symbol_entry (file_symbols file)) (symbols file)
      (all_map P symbol_entry (file_symbols file) (all_map (λ y. P (symbol_entry y)) symbol_of (symbols file)
      (all_of (λ y. P (symbol_entry (symbol_of y))) (symbols file) (λ y here. (y, here, refl, (let short = name_within file (symbol_name y) in omega (arith, short)))))))

  -- ---- the names of sections

  abbrev IsSection : List ℕ × SectionIndex → Type 0
  IsSection = Counted text_total text_exact name_or_empty section_row (section_entry_bytes file) (sections file)

  entry_counted : (s : SectionOf) → Among s (sections file) → AllByRecursion IsSection (section_info_entry (section_of s))
  unfolding section_of section_with section_entry_bytes
  entry_counted s here = ((s, here, refl, (let short = name_within file (section_name s) in omega (arith, short))), tt)

  one_counted : (o : Option SectionOf) → ((s : SectionOf) → o ≡ Some s → Among s (sections file)) → AllByRecursion IsSection (names_in o)
  one_counted None of_file = tt
  one_counted (Some s) of_file = entry_counted s (of_file s refl)

  named_counted : (name : List ℕ) → AllByRecursion IsSection (names_in (find (λ s. is_name name (section_name s)) (sections file)))
  named_counted name = one_counted _ (λ s e. (found_among (λ s. is_name name (section_name s)) (sections file) s e).0)

  ext_counted : (types : Option TypeInfo) → AllByRecursion IsSection (ext_names_beside file types)
  ext_counted None = tt
  ext_counted (Some types) = named_counted (codes ".BTF.ext")

  all_names : AllByRecursion IsSection ((type_names file ++ ext_names file) ++ name_entries file)
  unfolding type_names ext_names name_entries
  all_names =
      all_append IsSection (type_names file ++ ext_names file) (name_entries file)
      (all_append IsSection (type_names file) (ext_names file) (named_counted (codes ".BTF")) (ext_counted (btf_of file)))
      (all_flat_map IsSection section_info_entry (object_sections file) (sections_all (λ s. AllByRecursion IsSection (section_info_entry s)) (λ s here. entry_counted s here)))

  same_table : put_all {R = text_cmp} empty ((type_names file ++ ext_names file) ++ name_entries file) ≡ section_infos file
  unfolding section_infos type_info_names
  same_table = put_all-append empty (type_names file ++ ext_names file) (name_entries file) ∙ ap (λ m. put_all m (name_entries file)) (put_all-append empty (type_names file) (ext_names file))

  pub names_owned : total section_row (entries (section_infos file)) ≤ total (section_entry_bytes file) (sections file)
  names_owned =
      subst (λ m. total section_row (entries m) ≤ total (section_entry_bytes file) (sections file)) same_table
      (covered text_total text_exact name_or_empty section_row (section_entry_bytes file) ((type_names file ++ ext_names file) ++ name_entries file) (sections file) all_names)

-- ---- the externs of a file, by its symbols.

module _ (file : List ℕ) where
  abbrev name_of : SymbolOf → List ℕ
  name_of y = unwrap_or (symbol_name y) []

  abbrev counted_of : SymbolOf → ℕ
  counted_of y = extern_size + name_bytes file (symbol_name y)

  abbrev IsExtern : List ℕ × ExternDesc → Type 0
  IsExtern = Counted text_total text_exact name_of extern_row counted_of (symbols file)

  abbrev AreExterns : Result (List ℕ × ExternDesc) BtfError → Type 0
  AreExterns r = AllByRecursion IsExtern (given r)

  -- a name that a symbol has
  named_after : (name : List ℕ) (x : ExternDesc) (z : SymbolValue) → find (λ y. eq_by_cmp text_cmp name y.name) (file_symbols file) ≡ Some z → IsExtern (name, x)
  unfolding symbol_of
  named_after name x z e =
      let found = found_among (λ y. eq_by_cmp text_cmp name y.name) (file_symbols file) z e in
      let each : AllByRecursion (λ y. eq_by_cmp text_cmp name y.name ≡ true → IsExtern (name, x)) (file_symbols file) =
      all_map (λ y. eq_by_cmp text_cmp name y.name ≡ true → IsExtern (name, x)) symbol_of (symbols file)
      (all_of (λ y. eq_by_cmp text_cmp name (symbol_of y).name ≡ true → IsExtern (name, x)) (symbols file) (λ y here same.
      let one : name ≡ name_of y = text_exact name (name_of y) (is_equal _ same) in
      let short = name_within file (symbol_name y) in
      let long : length name ≡ length (name_of y) = ap length one in
      (y, here, sym one, omega (arith, short, long)))) in
      each_at _ (file_symbols file) each z found.0 found.1

  after_weak : (name : List ℕ) (o : Option SymbolValue) → find (λ y. eq_by_cmp text_cmp name y.name) (file_symbols file) ≡ o → (f : Bool → Result (List ℕ × ExternDesc) BtfError) (e : BtfError)
      → (((x : ExternDesc) → IsExtern (name, x)) → (w : Bool) → AreExterns (f w)) → AreExterns (if_some (option_map (λ (y : SymbolValue). y.is_weak) o) f (Err e))
  after_weak name None found f e h = tt
  after_weak name (Some z) found f e h = h (λ x. named_after name x z found) z.is_weak

  after_ok : {A : Type 0} (r : Result A BtfError) (f : A → Result (List ℕ × ExternDesc) BtfError) → ((x : A) → AreExterns (f x)) → AreExterns (if_ok r f)
  after_ok (Ok x) f h = h x
  after_ok (Err e) f h = tt

  after_some : {A : Type 0} (o : Option A) (f : A → Result (List ℕ × ExternDesc) BtfError) (e : BtfError) → ((x : A) → AreExterns (f x)) → AreExterns (if_some o f (Err e))
  after_some None f e h = tt
  after_some (Some x) f e h = h x

  extern_counted : (info : TypeInfo) (row : DataSecEntry) → AreExterns (extern_of info (weak_named (file_symbols file)) row)
  unfolding extern_of
  extern_counted info row =
      after_ok (type_at info.types row.btf_type) _ (λ t. after_some _ _ _ (λ id. after_ok (type_name info t) _ (λ name.
      after_weak name (find (λ y. eq_by_cmp text_cmp name y.name) (file_symbols file)) refl _ _ (λ is_named w. after_ok (resolved info.types id) _ (λ r. (is_named (new_extern row.btf_type t w r), tt))))))

  beside : (types : Option TypeInfo) → total extern_row (entries (externs_beside (file_symbols file) types)) ≤ total counted_of (symbols file)
  beside None = subst (λ es. total extern_row es ≤ total counted_of (symbols file)) (sym (entries-empty text_cmp ExternDesc)) (omega arith)
  beside (Some types) =
      covered text_total text_exact name_of extern_row counted_of (flat_map (λ row. given (extern_of (extern_types types) (weak_named (file_symbols file)) row)) (matched_entries (ksyms_datasec types))) (symbols file)
      (all_flat_map IsExtern (λ row. given (extern_of (extern_types types) (weak_named (file_symbols file)) row)) (matched_entries (ksyms_datasec types))
      (all_of (λ row. AllByRecursion IsExtern (given (extern_of (extern_types types) (weak_named (file_symbols file)) row))) (matched_entries (ksyms_datasec types)) (λ row here. extern_counted (extern_types types) row)))

  pub externs_owned : total extern_row (entries (externs_of file)) ≤ total counted_of (symbols file)
  unfolding externs_of
  externs_owned = beside (btf_of file)
