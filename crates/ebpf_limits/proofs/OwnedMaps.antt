-- The maps of a file, by its sections of data and its symbols.
use Rattle.std.proofs.Common.{◌≡◌, ◌⊎◌, inl, inr, ℕ, zero, suc, ◌+◌, ◌≤◌, List, [], ◌∷◌, ◌++◌, map, length, Option, Some, None, Result, Ok, Err, refl, sym, ap, ◌∙◌, arith}
use Rattle.std.specs.Prelude.{unwrap_or}
use Rattle.std.specs.FinMap.{entries, get}
use Rattle.std.specs.List.{AllByRecursion}
use Rattle.std.proofs.lemmas.List.{length-replicate}
use Rattle.ebpf_base.specs.Maps.{text_cmp, text_total}
use Rattle.ebpf_base.proofs.Mapped.{later_text_stands}
use Rattle.ebpf_base.proofs.TextMaps.{text_exact}
use Rattle.ebpf_btf.specs.Next.{if_some}
use Rattle.ebpf_btf.specs.TypeInfo.{TypeInfo}
use Rattle.ebpf_btf.specs.declared.error.BtfError.{BtfError}
use Rattle.ebpf_btf_decls.specs.DataSections.{given, DatasecMatch, Named, UnreadableName, datasec_match}
use Rattle.ebpf_btf_decls.specs.Maps.{declared, map_at, entry_map, type_maps, map_with_symbol, matched_maps as maps_of_entries, TypesInMode, types_in_mode}
use Rattle.ebpf_btf_decls.specs.declared.members.MapDefinitions.{MapDefinitions}
use Rattle.ebpf_elf.specs.Sections.{SectionOf, header, sections, section_name}
use Rattle.ebpf_elf.specs.Symbols.{SymbolOf, entry, symbols, symbol_name, symbol_section_index}
use Rattle.ebpf_btf_ext.specs.ExtReading.{ExtInfo}
use Rattle.ebpf_limits.specs.OwnedBytes.{SectionFacts, facts_of, facts_at, name_bytes, map_size, contents_by, contents_bytes, map_row, total}
use Rattle.ebpf_limits.proofs.Counts.{Among, Counted, covered, all_map, all_flat_map, all_of, name_within, total_append, total_map}
use Rattle.ebpf_limits.proofs.OwnedFunctions.{data_short}
use Rattle.ebpf_limits.proofs.OwnedTables.{facts_in, map_in, its_facts, its_name, its_map, sections_all, symbols_all, facts_here}
use Rattle.ebpf_parsing.specs.Maps.{btf_defined_maps, data_bytes, data_map, data_maps, legacy_entry, legacy_map, legacy_maps}
use Rattle.ebpf_parsing.specs.Sections.{object_sections}
use Rattle.ebpf_parsing.specs.FileContents.{own_symbols, maps_as, map_entries}
use Rattle.ebpf_parsing.specs.OfSection.{maps_by, maps_in}
use Rattle.ebpf_parsing.specs.FileTypes.{types_of_file}
use Rattle.ebpf_parsing.specs.Symbols.{symbol_of, name_and_index, symbol_indices_by_name, SymbolValue}
use Rattle.ebpf_parsing.proofs.Entries.{stands}
use Rattle.ebpf_parts.specs.Maps.{bytes_of}
use Rattle.ebpf_parts.specs.Sections.{SectionValue, section_of, section_with, name_or_empty}
use Rattle.ebpf_parts.specs.declared.error.ParseError.{ParseError}
use Rattle.ebpf_parts.specs.declared.error.ParseError.TheVariants.{SymbolNotFound}
use Rattle.ebpf_parts.specs.declared.maps.either.Map.{Map}
use Rattle.ebpf_parts.specs.declared.parse_mode.ParseMode.{ParseMode}
use Rattle.ebpf_parts.specs.declared.section.EbpfSectionKind.{EbpfSectionKind}
use Rattle.ebpf_parts.specs.declared.section.EbpfSectionKind.TheVariants.{Maps, BtfMaps, Data, Rodata, Bss}

-- ---- places in two lists, one behind the other

module _ {A B C : Type 0} (f : A → C) (g : B → C) where
  in_front : (xs : List A) (zs : List C) (x : A) → Among x xs → Among (f x) (map f xs ++ zs)
  in_front [] zs x here = absurd (let e = here.1 in let no : ⊥ = cc in no)
  in_front (y ∷ xs) zs x (zero, e) = let same : y ≡ x = cc in (0, ap (λ z. Some (f z)) same)
  in_front (y ∷ xs) zs x (suc i, e) = let found = in_front xs zs x (i, e) in (suc found.0, found.1)

  mapped : (ys : List B) (y : B) → Among y ys → Among (g y) (map g ys)
  mapped [] y here = absurd (let e = here.1 in let no : ⊥ = cc in no)
  mapped (z ∷ ys) y (zero, e) = let same : z ≡ y = cc in (0, ap (λ z. Some (g z)) same)
  mapped (z ∷ ys) y (suc i, e) = let found = mapped ys y (i, e) in (suc found.0, found.1)

  in_back : (xs : List A) (ys : List B) (y : B) → Among y ys → Among (g y) (map f xs ++ map g ys)
  in_back [] ys y here = mapped ys y here
  in_back (x ∷ xs) ys y here = let found = in_back xs ys y here in (suc found.0, found.1)

-- ---- what counts by a kind

counts_data : (k : EbpfSectionKind) (name : ℕ) (f : SectionFacts) → k ≡ Data → contents_by k name f ≡ map_size + name + f.size
counts_data k name f e = rw e refl

counts_rodata : (k : EbpfSectionKind) (name : ℕ) (f : SectionFacts) → k ≡ Rodata → contents_by k name f ≡ map_size + name + f.size
counts_rodata k name f e = rw e refl

counts_bss : (k : EbpfSectionKind) (name : ℕ) (f : SectionFacts) → k ≡ Bss → contents_by k name f ≡ map_size + name + f.size
counts_bss k name f e = rw e refl

data_length : (k : EbpfSectionKind) (s : SectionValue) → k ≡ Data → length (data_bytes k s) ≡ length s.bytes
data_length k s e = rw e refl

rodata_length : (k : EbpfSectionKind) (s : SectionValue) → k ≡ Rodata → length (data_bytes k s) ≡ length s.bytes
rodata_length k s e = rw e refl

bss_length : (k : EbpfSectionKind) (s : SectionValue) → k ≡ Bss → length (data_bytes k s) ≡ s.size
bss_length k s e = rw e (length-replicate s.size 0)

map_here : (o : Option SectionFacts) (f : SectionFacts) (name : ℕ) → o ≡ Some f → f.kind ≡ Maps → map_in o name ≡ map_size + name
map_here o f name a b = rw (a, b) refl

btf_map_here : (o : Option SectionFacts) (f : SectionFacts) (name : ℕ) → o ≡ Some f → f.kind ≡ BtfMaps → map_in o name ≡ map_size + name
btf_map_here o f name a b = rw (a, b) refl

module _ (file : List ℕ) (license : ℕ) (ext : Option ExtInfo) where
  abbrev Source : Type 0
  Source = SectionOf ⊎ SymbolOf

  abbrev key_of : Source → List ℕ
  key_of (inl s) = name_or_empty s
  key_of (inr y) = unwrap_or (symbol_name y) []

  abbrev counted_of : Source → ℕ
  counted_of (inl s) = contents_bytes file ext s
  counted_of (inr y) = its_map file license (facts_in file ext) y

  abbrev sources : List Source
  sources = map inl (sections file) ++ map inr (symbols file)

  abbrev IsMap : List ℕ × Map → Type 0
  IsMap = Counted text_total text_exact key_of map_row counted_of sources

  module _ (s : SectionOf) (of_file : Among s (sections file)) where
    abbrev own : List SymbolValue
    own = own_symbols file (section_of s)

    -- ---- of data

    data_counted : length (data_bytes (section_of s).kind (section_of s)) ≤ (header s).sh_size → contents_by (facts_of ext s).kind (name_bytes file (section_name s)) (facts_of ext s) ≡ map_size + name_bytes file (section_name s) + (header s).sh_size
        → AllByRecursion IsMap (data_maps (section_of s))
    unfolding data_map section_of section_with contents_bytes
    data_counted short counts =
        let named = name_within file (section_name s) in
        ((inl s, in_front inl inr (sections file) (map inr (symbols file)) s of_file, refl, omega (arith, short, counts, named)), tt)

    of_data : (section_of s).kind ≡ Data → AllByRecursion IsMap (data_maps (section_of s))
    unfolding section_of section_with facts_of
    of_data code =
        let short = data_short s in
        let same = data_length (section_of s).kind (section_of s) code in
        data_counted (omega (arith, short, same)) (counts_data (facts_of ext s).kind (name_bytes file (section_name s)) (facts_of ext s) code)

    of_rodata : (section_of s).kind ≡ Rodata → AllByRecursion IsMap (data_maps (section_of s))
    unfolding section_of section_with facts_of
    of_rodata code =
        let short = data_short s in
        let same = rodata_length (section_of s).kind (section_of s) code in
        data_counted (omega (arith, short, same)) (counts_rodata (facts_of ext s).kind (name_bytes file (section_name s)) (facts_of ext s) code)

    of_bss : (section_of s).kind ≡ Bss → AllByRecursion IsMap (data_maps (section_of s))
    unfolding section_of section_with facts_of
    of_bss code =
        let same = bss_length (section_of s).kind (section_of s) code in
        data_counted (omega (arith, same)) (counts_bss (facts_of ext s).kind (name_bytes file (section_name s)) (facts_of ext s) code)

    -- ---- of a symbol

    abbrev Names : List ℕ → Type 0
    Names name = (y : SymbolOf) × Among y (symbols file) × (unwrap_or (symbol_name y) [] ≡ name) × (symbol_section_index (entry y) ≡ Some s.index)

    named_counted : (name : List ℕ) (m : Map) → Names name → bytes_of m ≡ [] → ((o : Option SectionFacts) (named : ℕ) → o ≡ Some (facts_of ext s) → map_in o named ≡ map_size + named) → IsMap (name, m)
    named_counted name m of_symbol none counts =
        let y = of_symbol.0 in
        let facts : its_facts file license (facts_in file ext) y ≡ Some (facts_of ext s) = ap (facts_at (facts_in file ext)) of_symbol.3 ∙ facts_here file ext s of_file in
        let count = counts (its_facts file license (facts_in file ext) y) (its_name file license (facts_in file ext) y) facts in
        let short = name_within file (symbol_name y) in
        let same : length name ≡ length (unwrap_or (symbol_name y) []) = ap length (sym of_symbol.2) in
        let empty_data : length (bytes_of m) ≡ 0 = ap length none in
        (inr y, in_back inl inr (sections file) (symbols file) y of_symbol.1, of_symbol.2, omega (arith, count, short, same, empty_data))

    of_structs : (section_of s).kind ≡ Maps → AllByRecursion IsMap (legacy_maps (section_of s) own)
    unfolding symbol_of section_of section_with facts_of legacy_map
    of_structs code =
        all_map IsMap (legacy_entry (section_of s)) own
        (symbols_all file (λ y. IsMap (legacy_entry (section_of s) y)) s.index
        (λ y here inside. named_counted (unwrap_or (symbol_name y) []) (legacy_map (section_of s) (symbol_of y)) (y, here, refl, inside) refl (λ o named e. map_here o (facts_of ext s) named e code)))

    module _ (code : (section_of s).kind ≡ BtfMaps) (numbers : List ℕ → Option ℕ) (known : (name : List ℕ) (i : ℕ) → numbers name ≡ Some i → Names name) (section : ℕ) where
      by_number : (d : List ℕ × MapDefinitions) (o : Option ℕ) → numbers d.0 ≡ o → AllByRecursion IsMap (given (if_some {X = Result (List ℕ × Map) ParseError} o (λ y. Ok (d.0, map_at d.1 section y)) (Err (SymbolNotFound d.0))))
      unfolding section_of section_with facts_of
      by_number d None e = tt
      by_number d (Some i) e = (named_counted d.0 (map_at d.1 section i) (known d.0 i e) refl (λ o named f. btf_map_here o (facts_of ext s) named f code), tt)

      by_declared : (r : Result (List ℕ × MapDefinitions) BtfError) → AllByRecursion IsMap (given (map_with_symbol numbers section r))
      by_declared (Err x) = tt
      by_declared (Ok d) = by_number d (numbers d.0) refl

      by_entries : (mode : ParseMode) (info : TypeInfo) (o : Option DatasecMatch) → AllByRecursion IsMap (maps_of_entries mode info numbers section o)
      unfolding entry_map
      by_entries mode info None = tt
      by_entries mode info (Some (UnreadableName x)) = tt
      by_entries mode info (Some (Named rows)) =
          all_flat_map IsMap (λ row. given (entry_map mode info numbers section row)) rows (all_of (λ row. AllByRecursion IsMap (given (entry_map mode info numbers section row))) rows (λ row here. by_declared (declared mode info row)))

    of_types : (section_of s).kind ≡ BtfMaps → (types : Option TypesInMode) → AllByRecursion IsMap (btf_defined_maps types (section_of s) own)
    unfolding btf_defined_maps type_maps symbol_of section_of section_with
    of_types code None = tt
    of_types code (Some d) =
        let numbers : List ℕ → Option ℕ = get (symbol_indices_by_name own) in
        let each : AllByRecursion (λ e. Names e.0) (map name_and_index own) =
        all_map (λ (e : List ℕ × ℕ). Names e.0) name_and_index own (symbols_all file (λ y. Names y.name) s.index (λ y here inside. (y, here, refl, inside))) in
        let known = λ (name : List ℕ) (i : ℕ) (e : numbers name ≡ Some i). stands text_cmp text_exact (λ n k. Names n) name later_text_stands (map name_and_index own) each i e in
        all_flat_map IsMap (type_maps d.mode d.types numbers s.index (section_of s).name) d.types.types
        (all_of (λ t. AllByRecursion IsMap (type_maps d.mode d.types numbers s.index (section_of s).name t)) d.types.types
        (λ t here. by_entries code numbers known s.index d.mode d.types (datasec_match d.types (section_of s).name t)))

    of_kind : (mode : ParseMode) (types : Option TypeInfo) (kind : EbpfSectionKind) → (section_of s).kind ≡ kind → AllByRecursion IsMap (maps_by kind mode types (section_of s) own)
    of_kind mode types Data code = of_data code
    of_kind mode types Rodata code = of_rodata code
    of_kind mode types Bss code = of_bss code
    of_kind mode types Maps code = of_structs code
    of_kind mode types BtfMaps code = of_types code (types_in_mode mode types)
    of_kind mode types _ other = tt

  pub maps_owned : (mode : ParseMode) → total map_row (entries (maps_as mode file)) ≤ total (contents_bytes file ext) (sections file) + total (its_map file license (facts_in file ext)) (symbols file)
  unfolding maps_as map_entries maps_in
  maps_owned mode =
      let types = types_of_file file in
      let whole = covered text_total text_exact key_of map_row counted_of (map_entries mode types file) sources
      (all_flat_map IsMap (λ s. maps_in mode types s (own_symbols file s)) (object_sections file)
      (sections_all file (λ s. AllByRecursion IsMap (maps_in mode types s (own_symbols file s))) (λ s here. of_kind s here mode types (section_of s).kind refl))) in
      let parts = total_append counted_of (map inl (sections file)) (map inr (symbols file)) in
      let front = total_map {B = Source} counted_of inl (sections file) in
      let back = total_map {B = Source} counted_of inr (symbols file) in
      omega (arith, whole, parts, front, back)
