-- The last entry with a key: one that is put again later need not be put before. So with maps of data.
use Rattle.std.proofs.Common.{◌≡◌, true, false, List, [], ◌∷◌, Option, refl, ap, ◌∙◌, if◌then◌else◌, ℕ, Bool, ◌||◌, sym}
use Rattle.std.proofs.lemmas.List.Folds.{list_any-append}
use Rattle.std.specs.FinMap.{FinMap, get}
use Rattle.std.specs.List.{flat_map}
use Rattle.std.specs.Ordering.{eq_by_cmp}
use Rattle.ebpf_base.proofs.TextMaps.{text_exact}
use Rattle.ebpf_base.specs.Maps.{put_all, text_cmp, text_total}
use Rattle.ebpf_btf.specs.TypeInfo.{TypeInfo}
use Rattle.ebpf_parts.specs.Sections.{SectionValue}
use Rattle.ebpf_parts.specs.declared.maps.either.Map.{Map}
use Rattle.ebpf_parts.specs.declared.parse_mode.ParseMode.{ParseMode}
use Rattle.ebpf_parts.specs.declared.section.EbpfSectionKind.{EbpfSectionKind}
use Rattle.ebpf_parts.specs.declared.section.EbpfSectionKind.TheVariants.{Undefined, Maps, BtfMaps, Data, Rodata, Bss, Text, Btf, BtfExt, License, Version, Program as Programs}
use Rattle.ebpf_parsing.specs.FileContents.{symbols_at}
use Rattle.ebpf_parsing.specs.Maps.{data_maps}
use Rattle.ebpf_parsing.specs.ObjectTables.{last_maps, put_by, added_last, added, all_added}
use Rattle.ebpf_parsing.specs.OfSection.{maps_by, maps_in}
use Rattle.ebpf_parsing.specs.declared.object_tables.ObjectTables.{ObjectTables}
use Rattle.ebpf_sections.specs.Sections.{is_index, is_data_kind, data_row}
use Rattle.ebpf_sections.specs.Symbols.{SymbolValue}
use Rattle.ebpf_sections.specs.declared.metadata.FileMetadata.{FileMetadata}
use Rattle.ebpf_sections.proofs.Lasts.{has, false_is_not, put_again, Lasts, another}

-- ---- the maps of sections of data, of which only the last of a name is put

abbrev pub DataLasts : FinMap text_cmp ℕ → List SectionValue → Type 0
DataLasts last rest = Lasts text_total data_row last rest

module _ (mode : ParseMode) (types : Option TypeInfo) where
  -- a section of data gives a map of its name
  data_gives : (q : List ℕ) (s : SectionValue) (symbols : List SymbolValue) (k : EbpfSectionKind) → has text_cmp q (if is_data_kind k then (s.name, s.index.0) ∷ [] else []) ≡ true → has text_cmp q (maps_by k mode types s symbols) ≡ true
  data_gives q s symbols Data h = h
  data_gives q s symbols Rodata h = h
  data_gives q s symbols Bss h = h
  data_gives q s symbols Undefined h = false_is_not h
  data_gives q s symbols Maps h = false_is_not h
  data_gives q s symbols BtfMaps h = false_is_not h
  data_gives q s symbols Programs h = false_is_not h
  data_gives q s symbols Text h = false_is_not h
  data_gives q s symbols Btf h = false_is_not h
  data_gives q s symbols BtfExt h = false_is_not h
  data_gives q s symbols License h = false_is_not h
  data_gives q s symbols Version h = false_is_not h

  module _ (ys : List SymbolValue) where
    abbrev maps_of : List SectionValue → List (List ℕ × Map)
    maps_of rest = flat_map (λ s. maps_in mode types s (symbols_at ys s)) rest

    all_give : (q : List ℕ) (rest : List SectionValue) → has text_cmp q (flat_map data_row rest) ≡ true → has text_cmp q (maps_of rest) ≡ true
    unfolding maps_in
    all_give q [] h = false_is_not h
    all_give q (s ∷ rest) h =
        list_any-append (λ e. eq_by_cmp text_cmp q e.0) (maps_in mode types s (symbols_at ys s)) (maps_of rest)
        ∙ either (has text_cmp q (data_row s)) (has text_cmp q (flat_map data_row rest)) (has text_cmp q (maps_in mode types s (symbols_at ys s))) (has text_cmp q (maps_of rest))
        (data_gives q s (symbols_at ys s) s.kind) (all_give q rest) (sym (list_any-append (λ e. eq_by_cmp text_cmp q e.0) (data_row s) (flat_map data_row rest)) ∙ h)
      where
        either : (a b c d : Bool) → (a ≡ true → c ≡ true) → (b ≡ true → d ≡ true) → (a || b) ≡ true → (c || d) ≡ true
        either a b true d f g h = refl
        either true b false d f g h = false_is_not (f refl)
        either false b false d f g h = g h

module _ (last : FinMap text_cmp ℕ) (s : SectionValue) (rest : List SectionValue) (lasts : DataLasts last (s ∷ rest)) (metadata : FileMetadata) (p : ObjectTables) (ys : List SymbolValue) where
  abbrev rest_maps : List (List ℕ × Map)
  rest_maps = maps_of metadata.mode metadata.btf ys rest

  skipped : is_data_kind s.kind ≡ true → put_all (put_all p.maps (last_maps last s)) rest_maps ≡ put_all (put_all p.maps (data_maps s)) rest_maps
  skipped is = step (is_index s.index.0 (get last s.name)) refl
    where
      step : (b : Bool) → is_index s.index.0 (get last s.name) ≡ b → put_all (put_all p.maps (if is_index s.index.0 (get last s.name) then data_maps s else [])) rest_maps ≡ put_all (put_all p.maps (data_maps s)) rest_maps
      step true at = rw at refl
      step false at = rw at (sym (put_again text_total text_exact p.maps s.name _ rest_maps (all_give metadata.mode metadata.btf ys s.name rest (another text_total data_row last s rest lasts s.name s.index.0 (ap (λ (b : Bool). if b then (s.name, s.index.0) ∷ [] else []) is) at))))

  same_put : (symbols : List SymbolValue) (k : EbpfSectionKind) → s.kind ≡ k → put_all (put_all p.maps (put_by k last metadata.mode metadata.btf s symbols)) rest_maps ≡ put_all (put_all p.maps (maps_by k metadata.mode metadata.btf s symbols)) rest_maps
  same_put symbols Data at = skipped (ap is_data_kind at)
  same_put symbols Rodata at = skipped (ap is_data_kind at)
  same_put symbols Bss at = skipped (ap is_data_kind at)
  same_put symbols Undefined at = refl
  same_put symbols Maps at = refl
  same_put symbols BtfMaps at = refl
  same_put symbols Programs at = refl
  same_put symbols Text at = refl
  same_put symbols Btf at = refl
  same_put symbols BtfExt at = refl
  same_put symbols License at = refl
  same_put symbols Version at = refl

  -- what the sections that are left add is the same
  pub same_added : (symbols : List SymbolValue) → all_added metadata (added_last last metadata p s symbols) ys rest ≡ all_added metadata (added metadata p s symbols) ys rest
  unfolding added maps_in
  same_added symbols = λ i. record (all_added metadata (added metadata p s symbols) ys rest) { maps = same_put symbols s.kind refl i }
