-- What stands in the tables of each file: keys, relocations of code, the symbols of maps.
use Rattle.std.proofs.Common.{◌≡◌, ℕ, suc, Bool, false, List, [], ◌∷◌, map, filter, Option, Some, None, Result, Ok, Err, refl, sym, ◌∙◌, slice_get, ◌≢◌, ◌⊎◌, inl, inr, ◌==◌, true, ap, if◌then◌else◌, zero, cond, option_map, subst, eqb-true}
use Rattle.std.proofs.lemmas.Bool.{or_parts}
use Rattle.std.proofs.lemmas.Map.Lookups.{exact_unsigned}
use Rattle.std.proofs.lemmas.Option.{slice_get-map}
use Rattle.std.specs.Cmp.{nat_cmp_total}
use Rattle.std.specs.FinMap.{FinMap, get, get-empty}
use Rattle.std.specs.List.{AllByRecursion, flat_map, list_any}
use Rattle.std.specs.Ordering.{nat_cmp}
use Rattle.ebpf_base.proofs.Mapped.{later_text_stands, later_number_stands, later_key_stands}
use Rattle.ebpf_base.proofs.Maps.{key_exact}
use Rattle.ebpf_base.proofs.TextMaps.{text_exact}
use Rattle.ebpf_base.specs.Maps.{text_cmp, key_cmp, key_total}
use Rattle.ebpf_base.specs.Faults.{if_ok}
use Rattle.ebpf_btf.specs.Next.{if_some}
use Rattle.ebpf_btf.specs.Steps.{type_at, resolved}
use Rattle.ebpf_btf.specs.Strings.{type_name}
use Rattle.ebpf_btf.specs.TypeInfo.{TypeInfo}
use Rattle.ebpf_btf.specs.declared.error.BtfError.{BtfError}
use Rattle.ebpf_btf.specs.declared.members.DataSecEntry.{DataSecEntry}
use Rattle.ebpf_btf_decls.specs.DataSections.{given, matched_entries, DatasecMatch, Named, UnreadableName, datasec_match}
use Rattle.ebpf_btf_decls.specs.Externs.{extern_of, extern_types, ksyms_datasec}
use Rattle.ebpf_btf_decls.specs.Maps.{declared, map_at, entry_map, type_maps, map_with_symbol, matched_maps as maps_of_entries, TypesInMode, types_in_mode}
use Rattle.ebpf_btf_decls.specs.declared.members.MapDefinitions.{MapDefinitions}
use Rattle.ebpf_elf.specs.Symbols.{symbol_table_section as table_of, symbols_in}
use Rattle.ebpf_elf.specs.declared.relocation.ElfRelocation.{ElfRelocation}
use Rattle.ebpf_model.specs.declared.symbol.ExternDesc.{ExternDesc}
use Rattle.ebpf_model.specs.declared.function.Function.{Function}
use Rattle.ebpf_model.specs.declared.function.Program.{Program}
use Rattle.ebpf_parts.specs.Maps.{section_index_of, symbol_index_of}
use Rattle.ebpf_parts.specs.ProgramTypes.{section_as}
use Rattle.ebpf_parts.specs.Sections.{SectionValue}
use Rattle.ebpf_parts.specs.declared.error.ParseError.{ParseError}
use Rattle.ebpf_parts.specs.declared.error.ParseError.TheVariants.{UnsupportedRelocationTarget, SymbolNotFound}
use Rattle.ebpf_parts.specs.declared.maps.either.Map.{Map}
use Rattle.ebpf_parts.specs.declared.program_section.ProgramSection.{ProgramSection}
use Rattle.ebpf_parts.specs.declared.parse_mode.ParseMode.{ParseMode}
use Rattle.ebpf_parts.specs.declared.section.EbpfSectionKind.{EbpfSectionKind}
use Rattle.ebpf_parts.specs.declared.section.EbpfSectionKind.TheVariants.{Text, Program as Programs, Data, Rodata, Bss, Maps, BtfMaps}
use Rattle.ebpf_parsing.specs.FileContents.{programs_as, functions, relocation_tables, own_symbols, function_entries, program_entries, relocation_entries, maps_as, map_entries}
use Rattle.ebpf_parsing.specs.FileTypes.{externs_of, externs_beside, ext_of, btf_of, types_of_file}
use Rattle.ebpf_parsing.specs.Laws.{FunctionsAtTheirKeys, IsFileSymbol, SymbolsAtTheirIndices, RelocationsAtTheirOffsets, ProgramsHaveFunctions, ExternsAreUnresolved, IsTableOfCode, TablesOfCode, RelocationsNameSymbols, IsSymbolIn, MapsHaveTheirSymbols, IsDataMap, OtherMapsAreOfData}
use Rattle.ebpf_parsing.specs.Maps.{data_map, data_maps, btf_defined_maps, legacy_map, legacy_maps}
use Rattle.ebpf_parsing.specs.OfSection.{functions_by, functions_in, programs_by, programs_in, relocations_by, relocations_in, maps_by, maps_in}
use Rattle.ebpf_sections.specs.LicenseAndVersion.{license_as, kernel_version_of}
use Rattle.ebpf_sections.specs.Programs.{with_key, program_function, program_of, programs_of, is_program_symbol}
use Rattle.ebpf_sections.specs.Records.{FuncAndLineInfo, func_and_line_info_of}
use Rattle.ebpf_sections.specs.Relocations.{offset_of, relocation_table_at, relocations_by_offset}
use Rattle.ebpf_sections.specs.Sections.{object_sections}
use Rattle.ebpf_sections.specs.Symbols.{file_symbols, symbol_of, symbol_entry, weak_named, SymbolValue, symbol_table, name_and_index, symbol_indices_by_name, is_in_section, section_symbols}
use Rattle.ebpf_sections.proofs.Entries.{stands, all_flat_map, Among, in_flat_map, known}
use Rattle.ebpf_parsing.proofs.SectionTables.{targets_clear}

-- ---- what stands in the tables of each file

-- ---- functions

abbrev AtKey : ℕ × ℕ → Function → Type 0
AtKey q f = (f.section_index.0 ≡ q.0) × (f.address ≡ q.1)

all_placed : (fs : List Function) → AllByRecursion (λ e. AtKey e.0 e.1) (map with_key fs)
all_placed [] = tt
all_placed (f ∷ fs) = ((refl, refl), all_placed fs)

pub functions_stand : FunctionsAtTheirKeys
unfolding functions function_entries functions_in
functions_stand bytes section address f e =
    stands key_cmp key_exact AtKey (section, address) later_key_stands (function_entries (ext_of bytes) bytes)
    (all_flat_map (λ e. AtKey e.0 e.1) (λ s. functions_in (ext_of bytes) s (own_symbols bytes s)) (object_sections bytes)
    (λ i s here. all_placed (functions_by s.kind (func_and_line_info_of (ext_of bytes) s.name) s (own_symbols bytes s)))) f e

-- ---- symbols

module _ (bytes : List ℕ) where
  numbered : (t : ℕ) → table_of bytes ≡ Some t → (ns : List ℕ) → AllByRecursion (λ e. IsFileSymbol bytes e.0 e.1) (map symbol_entry (map symbol_of (map (λ k. record { file = bytes; table = t; index = k }) ns)))
  unfolding symbol_of
  numbered t of_file [] = tt
  numbered t of_file (n ∷ ns) = (record { table = t; of_file = of_file; same = refl; number = refl; name = _; named = refl }, numbered t of_file ns)

  all_symbols : (o : Option ℕ) → table_of bytes ≡ o → AllByRecursion (λ e. IsFileSymbol bytes e.0 e.1) (map symbol_entry (map symbol_of (symbols_in bytes o)))
  all_symbols None e = tt
  all_symbols (Some t) e = numbered t e _

pub symbols_stand : SymbolsAtTheirIndices
symbols_stand bytes i y e =
    stands nat_cmp exact_unsigned (IsFileSymbol bytes) i later_number_stands (map symbol_entry (file_symbols bytes)) (all_symbols bytes (table_of bytes) refl) y e

-- ---- relocations

all_offsets : (rs : List ElfRelocation) → AllByRecursion (λ e. e.1.offset ≡ e.0) (map offset_of rs)
all_offsets [] = tt
all_offsets (r ∷ rs) = (refl, all_offsets rs)

abbrev IsTable : ℕ → FinMap nat_cmp ElfRelocation → Type 0
IsTable section table = ((o : ℕ) (r : ElfRelocation) → get table o ≡ Some r → r.offset ≡ o) × ((o : ℕ) × ((r : ElfRelocation) × (get table o ≡ Some r)))

table_stands : (section : ℕ) (rs : List ElfRelocation) → AllByRecursion (λ e. IsTable e.0 e.1) (relocation_table_at section rs)
table_stands section [] = tt
table_stands section (r ∷ rs) = (
  (
    (λ o x e. stands nat_cmp exact_unsigned (λ k y. y.offset ≡ k) o later_number_stands (map offset_of (r ∷ rs)) (all_offsets (r ∷ rs)) x e),
    (r.offset, known nat_cmp nat_cmp_total r.offset later_number_stands (map offset_of (r ∷ rs)) r (0, refl)),
  ),
  tt,
)

tables_by : (kind : EbpfSectionKind) (s : SectionValue) → AllByRecursion (λ e. IsTable e.0 e.1) (relocations_by kind s)
tables_by Programs s = table_stands s.index.0 s.relocations
tables_by Text s = table_stands s.index.0 s.relocations
tables_by _ s = tt

pub relocations_stand : RelocationsAtTheirOffsets
unfolding relocation_tables relocation_entries relocations_in
relocations_stand bytes section table e =
    stands nat_cmp exact_unsigned IsTable section later_number_stands (relocation_entries bytes)
    (all_flat_map (λ e. IsTable e.0 e.1) relocations_in (object_sections bytes) (λ i s here. tables_by s.kind s)) table e

-- ---- programs

module _ (all : List ((ℕ × ℕ) × Function)) (infos : FuncAndLineInfo) (s : SectionValue) (license : List ℕ) (version : Option ℕ) where
  abbrev HasFunction : List ℕ × Program → Type 0
  HasFunction e = (f : Function) × Among ((e.1.section_index, e.1.address), f) all

  abbrev Holds : List ((ℕ × ℕ) × Function) → Type 0
  Holds es = (j : ℕ) (b : (ℕ × ℕ) × Function) → slice_get es j ≡ Some b → Among b all

  each_program : (kind : ProgramSection) (zs : List SymbolValue) → Holds (map with_key (map (program_function infos s) zs)) → AllByRecursion HasFunction (map (program_of license version s kind) zs)
  unfolding program_function
  each_program kind [] holds = tt
  each_program kind (z ∷ zs) holds = ((program_function infos s z, holds 0 (with_key (program_function infos s z)) refl), each_program kind zs (λ j b e. holds (suc j) b e))

  each_of : (kind : Option ProgramSection) (ys : List SymbolValue) → Holds (map with_key (map (program_function infos s) (filter is_program_symbol ys))) → AllByRecursion HasFunction (programs_of license version s ys kind)
  each_of None ys holds = tt
  each_of (Some kind) ys holds = each_program kind (filter is_program_symbol ys) holds

  programs_of_kind : (mode : ParseMode) (kind : EbpfSectionKind) (ys : List SymbolValue) → Holds (map with_key (functions_by kind infos s ys)) → AllByRecursion HasFunction (programs_by kind mode license version s ys)
  programs_of_kind mode Programs ys holds = each_of (section_as mode s.name) ys holds
  programs_of_kind mode _ ys holds = tt

pub programs_stand : ProgramsHaveFunctions
unfolding programs_as program_entries programs_in functions function_entries functions_in
programs_stand mode bytes name p e =
    let ext = ext_of bytes in
    let all : List ((ℕ × ℕ) × Function) = function_entries ext bytes in
    let found = stands text_cmp text_exact (λ n x. (f : Function) × Among ((x.section_index, x.address), f) all) name later_text_stands (program_entries mode (license_as mode bytes) (kernel_version_of bytes) bytes)
    (all_flat_map (λ x. (f : Function) × Among ((x.1.section_index, x.1.address), f) all) (λ s. programs_in mode (license_as mode bytes) (kernel_version_of bytes) s (own_symbols bytes s)) (object_sections bytes)
    (λ i s here. programs_of_kind all (func_and_line_info_of ext s.name) s (license_as mode bytes) (kernel_version_of bytes) mode s.kind (own_symbols bytes s)
    (λ j b g. in_flat_map b (λ t. functions_in ext t (own_symbols bytes t)) (object_sections bytes) i s here j g))) p e in
    known key_cmp key_total (p.section_index, p.address) later_key_stands all found.0 found.1

-- ---- externs

abbrev IsUnresolved : ExternDesc → Type 0
IsUnresolved x = (x.kernel_btf_id ≡ None) × ((x.ksym_addr ≡ None) × (x.is_resolved ≡ false))

abbrev GivesUnresolved : Result (List ℕ × ExternDesc) BtfError → Type 0
GivesUnresolved r = AllByRecursion (λ e. IsUnresolved e.1) (given r)

after_ok : {A : Type 0} (r : Result A BtfError) (f : A → Result (List ℕ × ExternDesc) BtfError) → ((x : A) → GivesUnresolved (f x)) → GivesUnresolved (if_ok r f)
after_ok (Ok x) f h = h x
after_ok (Err e) f h = tt

after_some : {A : Type 0} (o : Option A) (f : A → Result (List ℕ × ExternDesc) BtfError) (e : BtfError) → ((x : A) → GivesUnresolved (f x)) → GivesUnresolved (if_some o f (Err e))
after_some None f e h = tt
after_some (Some x) f e h = h x

extern_unresolved : (info : TypeInfo) (weak : List ℕ → Option Bool) (entry : DataSecEntry) → GivesUnresolved (extern_of info weak entry)
unfolding extern_of
extern_unresolved info weak entry =
    after_ok (type_at info.types entry.btf_type) _ (λ t. after_some _ _ _ (λ id. after_ok (type_name info t) _ (λ name. after_some (weak name) _ _ (λ is_weak. after_ok (resolved info.types id) _ (λ r. ((refl, (refl, refl)), tt))))))

beside : (ys : List SymbolValue) (types : Option TypeInfo) (name : List ℕ) (x : ExternDesc) → get (externs_beside ys types) name ≡ Some x → IsUnresolved x
beside ys None name x e = absurd (let same : None ≡ Some x = sym (get-empty text_cmp name) ∙ e in let no : ⊥ = cc in no)
beside ys (Some types) name x e =
    stands text_cmp text_exact (λ n y. IsUnresolved y) name later_text_stands (flat_map (λ entry. given (extern_of (extern_types types) (weak_named ys) entry)) (matched_entries (ksyms_datasec types)))
    (all_flat_map (λ e. IsUnresolved e.1) (λ entry. given (extern_of (extern_types types) (weak_named ys) entry)) (matched_entries (ksyms_datasec types))
    (λ i entry here. extern_unresolved (extern_types types) (weak_named ys) entry)) x e

pub externs_stand : ExternsAreUnresolved
unfolding externs_of
externs_stand bytes name x e = beside (file_symbols bytes) (btf_of bytes) name x e

-- ---- the tables of relocations are those of sections of code, and name symbols

-- ---- whose they are

module _ (bytes : List ℕ) (i : ℕ) (s : SectionValue) (here : slice_get (object_sections bytes) i ≡ Some s) where
  of_code : (rs : List ElfRelocation) → s.relocations ≡ rs → (s.kind ≡ Text) ⊎ (s.kind ≡ Programs) → AllByRecursion (λ e. IsTableOfCode bytes e.0 e.1) (relocation_table_at s.index.0 rs)
  of_code [] e kind = tt
  of_code (r ∷ rs) e kind = (record { index = i; section = s; here = here; numbered = refl; kind = kind; own = ap relocations_by_offset (sym e) }, tt)

  of_kind : (kind : EbpfSectionKind) → s.kind ≡ kind → AllByRecursion (λ e. IsTableOfCode bytes e.0 e.1) (relocations_by kind s)
  of_kind Programs e = of_code s.relocations refl (inr e)
  of_kind Text e = of_code s.relocations refl (inl e)
  of_kind _ e = tt

pub tables_of_code : TablesOfCode
unfolding relocation_tables relocation_entries relocations_in
tables_of_code bytes section table e =
    stands nat_cmp exact_unsigned (IsTableOfCode bytes) section later_number_stands (relocation_entries bytes)
    (all_flat_map (λ e. IsTableOfCode bytes e.0 e.1) relocations_in (object_sections bytes) (λ i s here. of_kind bytes i s here s.kind refl)) table e

-- ---- what they name

clear_test : (b : Bool) → (if b then Some UnsupportedRelocationTarget else None) ≡ None → b ≡ false
clear_test true e = cc
clear_test false e = refl

not_zero : (n : ℕ) → (n == 0) ≡ false → n ≢ 0
not_zero n test is = let no : true ≡ false = sym (ap (λ k. k == 0) is) ∙ test in cc

all_named : (rs : List ElfRelocation) → list_any (λ r. r.symbol_index == 0) rs ≡ false → AllByRecursion (λ e. e.1.symbol_index ≢ 0) (map offset_of rs)
all_named [] h = tt
all_named (r ∷ rs) h =
    let both = or_parts (r.symbol_index == 0) (list_any (λ x. x.symbol_index == 0) rs) h in
    (not_zero r.symbol_index both.0, all_named rs both.1)

pub relocations_name_symbols : RelocationsNameSymbols
relocations_name_symbols mode bytes clear section table e o r at =
    let code = tables_of_code bytes section table e in
    let rs = code.section.relocations in
    let named = clear_test (list_any (λ x. x.symbol_index == 0) rs) (targets_clear mode bytes clear code.index code.section code.here) in
    stands nat_cmp exact_unsigned (λ k x. x.symbol_index ≢ 0) o later_number_stands (map offset_of rs) (all_named rs named) r (ap (λ t. get t o) (sym code.own) ∙ at)

-- ---- the symbols of maps, and the maps without one

-- ---- lists

module _ {A : Type 0} (P : A → Type 0) where
  each_at : (xs : List A) → AllByRecursion P xs → (j : ℕ) (x : A) → slice_get xs j ≡ Some x → P x
  each_at [] all j x e = absurd (let no : ⊥ = cc in no)
  each_at (y ∷ xs) all zero x e = let same : y ≡ x = cc in subst P same all.0
  each_at (y ∷ xs) all (suc j) x e = each_at xs all.1 j x e

  all_kept : (test : A → Bool) (xs : List A) → ((j : ℕ) (x : A) → slice_get xs j ≡ Some x → test x ≡ true → P x) → AllByRecursion P (filter test xs)
  all_kept test [] h = tt
  all_kept test (x ∷ xs) h = elim (test x) as (λ b. test x ≡ b → AllByRecursion P (cond b (x ∷ filter test xs) (filter test xs))) [
    | true ↦ λ passes. (h 0 x refl passes, all_kept test xs (λ j y e. h (suc j) y e))
    | false ↦ λ fails. all_kept test xs (λ j y e. h (suc j) y e)
  ] refl

-- ---- symbols

module _ (bytes : List ℕ) where
  abbrev IsOfFile : SymbolValue → Type 0
  IsOfFile y = (t : ℕ) × ((table_of bytes ≡ Some t) × (y ≡ symbol_of (record { file = bytes; table = t; index = y.index })))

  of_table : (t : ℕ) → table_of bytes ≡ Some t → (ns : List ℕ) → AllByRecursion IsOfFile (map symbol_of (map (λ k. record { file = bytes; table = t; index = k }) ns))
  unfolding symbol_of
  of_table t e [] = tt
  of_table t e (n ∷ ns) = ((t, (e, refl)), of_table t e ns)

  of_file : (o : Option ℕ) → table_of bytes ≡ o → AllByRecursion IsOfFile (map symbol_of (symbols_in bytes o))
  of_file None e = tt
  of_file (Some t) e = of_table t e _

  -- the table has each symbol of the file at its number
  at_number : (y : SymbolValue) → IsOfFile y → Among y (file_symbols bytes) → get (symbol_table (file_symbols bytes)) y.index ≡ Some (symbol_entry y).1
  at_number y own index =
      let entry : slice_get (map symbol_entry (file_symbols bytes)) index.0 ≡ Some (symbol_entry y) = slice_get-map symbol_entry (file_symbols bytes) index.0 ∙ ap (option_map symbol_entry) index.1 in
      let found = known nat_cmp nat_cmp_total y.index later_number_stands (map symbol_entry (file_symbols bytes)) (symbol_entry y).1 (index.0, entry) in
      let is = symbols_stand bytes y.index found.0 found.1 in
      let one : Some is.table ≡ Some own.0 = sym is.of_file ∙ own.1.0 in
      let same : is.table ≡ own.0 = cc in
      found.1 ∙ ap Some (is.same ∙ ap (λ t. (symbol_entry (symbol_of (record { file = bytes; table = t; index = y.index }))).1) same ∙ ap (λ z. (symbol_entry z).1) (sym own.1.1))

  inside : (section : ℕ) (o : Option ℕ) → is_in_section section o ≡ true → o ≡ Some section
  inside section None e = cc
  inside section (Some s) e = ap Some (eqb-true s section e)

  -- those that a section has
  in_section : (section : ℕ) → AllByRecursion (λ y. IsSymbolIn bytes y.index y.name section) (section_symbols (file_symbols bytes) section)
  unfolding section_symbols
  in_section section = all_kept (λ y. IsSymbolIn bytes y.index y.name section) (λ y. is_in_section section y.section_index) (file_symbols bytes) (λ j y e passes. record {
    symbol = (symbol_entry y).1;
    here = at_number y (each_at IsOfFile (file_symbols bytes) (of_file (table_of bytes) refl) j y e) (j, e);
    named = refl;
    inside = inside section y.section_index passes;
  })

  -- ---- maps

  abbrev IsPlaced : List ℕ → Map → Type 0
  IsPlaced name m = ((i : ℕ) → symbol_index_of m ≡ Some i → IsSymbolIn bytes i name (section_index_of m)) × (symbol_index_of m ≡ None → IsDataMap bytes name m)

  abbrev ArePlaced : List (List ℕ × Map) → Type 0
  ArePlaced entries = AllByRecursion (λ e. IsPlaced e.0 e.1) entries

  -- of fixed structs
  by_structs : (s : SectionValue) (ys : List SymbolValue) → AllByRecursion (λ y. IsSymbolIn bytes y.index y.name s.index.0) ys → ArePlaced (legacy_maps s ys)
  unfolding legacy_map
  by_structs s [] all = tt
  by_structs s (y ∷ ys) all = (
    (
      (λ i e. let same : y.index ≡ i = cc in subst (λ k. IsSymbolIn bytes k y.name s.index.0) same all.0),
      (λ e. absurd (let no : ⊥ = cc in no)),
    ),
    by_structs s ys all.1,
  )

  -- of types
  module _ (section : ℕ) (numbers : List ℕ → Option ℕ) (symbols : (name : List ℕ) (i : ℕ) → numbers name ≡ Some i → IsSymbolIn bytes i name section) where
    by_number : (d : List ℕ × MapDefinitions) (o : Option ℕ) → numbers d.0 ≡ o
        → ArePlaced (given (if_some {X = Result (List ℕ × Map) ParseError} o (λ y. Ok (d.0, map_at d.1 section y)) (Err (SymbolNotFound d.0))))
    by_number d None e = tt
    by_number d (Some y) e = (
      (
        (λ i f. let same : y ≡ i = cc in symbols d.0 i (e ∙ ap Some same)),
        (λ f. absurd (let no : ⊥ = cc in no)),
      ),
      tt,
    )

    by_declared : (r : Result (List ℕ × MapDefinitions) BtfError) → ArePlaced (given (map_with_symbol numbers section r))
    by_declared (Err x) = tt
    by_declared (Ok d) = by_number d (numbers d.0) refl

    by_entries : (mode : ParseMode) (info : TypeInfo) (o : Option DatasecMatch) → ArePlaced (maps_of_entries mode info numbers section o)
    unfolding entry_map
    by_entries mode info None = tt
    by_entries mode info (Some (UnreadableName x)) = tt
    by_entries mode info (Some (Named entries)) =
        all_flat_map (λ e. IsPlaced e.0 e.1) (λ entry. given (entry_map mode info numbers section entry)) entries (λ i entry here. by_declared (declared mode info entry))

  numbers_known : (section : ℕ) (ys : List SymbolValue) → AllByRecursion (λ y. IsSymbolIn bytes y.index y.name section) ys → AllByRecursion (λ e. IsSymbolIn bytes e.1 e.0 section) (map name_and_index ys)
  numbers_known section [] all = tt
  numbers_known section (y ∷ ys) all = (all.0, numbers_known section ys all.1)

  by_types : (types : Option TypesInMode) (s : SectionValue) (ys : List SymbolValue) → AllByRecursion (λ y. IsSymbolIn bytes y.index y.name s.index.0) ys → ArePlaced (btf_defined_maps types s ys)
  unfolding btf_defined_maps type_maps
  by_types None s ys all = tt
  by_types (Some d) s ys all =
      let numbers : List ℕ → Option ℕ = get (symbol_indices_by_name ys) in
      let symbols = λ (name : List ℕ) (i : ℕ) (e : numbers name ≡ Some i). stands text_cmp text_exact (λ n k. IsSymbolIn bytes k n s.index.0) name later_text_stands (map name_and_index ys) (numbers_known s.index.0 ys all) i e in
      all_flat_map (λ e. IsPlaced e.0 e.1) (type_maps d.mode d.types numbers s.index.0 s.name) d.types.types
      (λ i t here. by_entries s.index.0 numbers symbols d.mode d.types (datasec_match d.types s.name t))

  -- of data
  no_symbol : (s : SectionValue) (k : ℕ) → symbol_index_of (data_map s) ≡ Some k → IsSymbolIn bytes k s.name (section_index_of (data_map s))
  unfolding data_map
  no_symbol s k e = absurd (let no : ⊥ = cc in no)

  by_data : (i : ℕ) (s : SectionValue) → slice_get (object_sections bytes) i ≡ Some s → (s.kind ≡ Data) ⊎ ((s.kind ≡ Rodata) ⊎ (s.kind ≡ Bss)) → ArePlaced (data_maps s)
  by_data i s here kind = ((no_symbol s, (λ e. record { index = i; section = s; here = here; kind = kind; named = refl; own = refl })), tt)

  by_kind : (mode : ParseMode) (types : Option TypeInfo) (i : ℕ) (s : SectionValue) → slice_get (object_sections bytes) i ≡ Some s → (kind : EbpfSectionKind) → s.kind ≡ kind → ArePlaced (maps_by kind mode types s (own_symbols bytes s))
  by_kind mode types i s here Data e = by_data i s here (inl e)
  by_kind mode types i s here Rodata e = by_data i s here (inr (inl e))
  by_kind mode types i s here Bss e = by_data i s here (inr (inr e))
  by_kind mode types i s here Maps e = by_structs s (own_symbols bytes s) (in_section s.index.0)
  by_kind mode types i s here BtfMaps e = by_types (types_in_mode mode types) s (own_symbols bytes s) (in_section s.index.0)
  by_kind mode types i s here _ e = tt

  placed_map : (mode : ParseMode) (name : List ℕ) (m : Map) → get (maps_as mode bytes) name ≡ Some m → IsPlaced name m
  unfolding maps_as map_entries maps_in
  placed_map mode name m e =
      stands text_cmp text_exact IsPlaced name later_text_stands (map_entries mode (types_of_file bytes) bytes)
      (all_flat_map (λ x. IsPlaced x.0 x.1) (λ s. maps_in mode (types_of_file bytes) s (own_symbols bytes s)) (object_sections bytes) (λ i s here. by_kind mode (types_of_file bytes) i s here s.kind refl)) m e

pub maps_have_symbols : MapsHaveTheirSymbols
maps_have_symbols mode bytes name m e = (placed_map bytes mode name m e).0

pub others_of_data : OtherMapsAreOfData
others_of_data mode bytes name m e = (placed_map bytes mode name m e).1
