-- The DATASECs of some names, found in one pass over the types, and maps of which each name is put once, as its last map.
use Rattle.std.proofs.Common.{◌≡◌, ◌≤◌, ◌+◌, ℕ, Bool, true, false, cond, List, [], ◌∷◌, ◌++◌, length, take, drop, Option, Some, None, Result, Ok, Err, refl, sym, ap, ◌∙◌, append_assoc, append-nil, arith, subst}
use Rattle.std.proofs.lemmas.Grind.{flat_map-append}
use Rattle.std.proofs.lemmas.Slice.Eq.{bytes_eq-Decides}
use Rattle.std.specs.Bool.{MatchBool}
use Rattle.std.specs.Cmp.{eq_by_cmp_equiv}
use Rattle.std.specs.FinMap.{FinMap, get, insert, empty, get-insert, get-empty, same_map}
use Rattle.std.specs.List.{flat_map, position, zip}
use Rattle.std.specs.Ordering.{eq_by_cmp}
use Rattle.std.specs.Prelude.{◌==◌, ⊤, OnOk, OnErr, is_some, if◌then◌else◌}
use Rattle.std.specs.Result.{is_err}
use Rattle.std.specs.Str.{bytes_eq}
use Rattle.ebpf_base.proofs.Faults.{or_else-assoc, first_some-append, both_None, or_else-None}
use Rattle.ebpf_base.proofs.Mapped.{later_text_stands}
use Rattle.ebpf_base.proofs.Maps.{is_equal}
use Rattle.ebpf_base.proofs.TextMaps.{text_exact, same_tests}
use Rattle.ebpf_base.specs.Faults.{first_some, or_else, fault_of, if_ok}
use Rattle.ebpf_btf.specs.Next.{if_some}
use Rattle.ebpf_base.specs.Maps.{put_all, last_at, text_cmp, text_total}
use Rattle.ebpf_btf.proofs.LongNames.{too_long}
use Rattle.ebpf_btf.specs.Strings.{before_zero, is_name_at, is_text, text_at, text_or_fault}
use Rattle.ebpf_btf.specs.TypeInfo.{TypeInfo}
use Rattle.ebpf_btf.specs.Types.{name_off}
use Rattle.ebpf_btf.specs.declared.error.BtfError.{BtfError}
use Rattle.ebpf_btf.specs.declared.error.BtfError.TheVariants.{InvalidStringOffset}
use Rattle.ebpf_btf.specs.declared.members.DataSecEntry.{DataSecEntry}
use Rattle.ebpf_btf.specs.declared.types.BtfType.{BtfType}
use Rattle.ebpf_btf_decls.proofs.NumberedNames.{last_at-append, at_name}
use Rattle.ebpf_btf_decls.specs.DataSections.{given, DatasecMatch, Named, UnreadableName, datasec_match_if, datasec_match, datasec_entries, matched_entries}
use Rattle.ebpf_btf_decls.specs.Maps.{entry_map, entries_maps, entries_fault, matched_maps, matched_maps_fault, type_maps, type_maps_fault, btf_maps, btf_maps_fault, declared, map_at, map_with_symbol}
use Rattle.ebpf_btf_decls.specs.SectionMaps.{datasec_name_fault, with_entries, AreWithoutEntries, NamesAreWithin, Stay, EntriesAreAdded, unreadable_name_fault, AreFound, missing, defined_maps, distinct_maps, AreMapsOf, AreSectionMaps, AreKept}
use Rattle.ebpf_btf_decls.specs.declared.data_sections.NamedSections.{NamedSections}
use Rattle.ebpf_btf_decls.specs.declared.distinct_maps.DistinctMaps.{DistinctMaps}
use Rattle.ebpf_btf_decls.specs.declared.members.MapDefinitions.{MapDefinitions}
use Rattle.ebpf_parts.specs.Memory.{is_parse_memory}
use Rattle.ebpf_parts.specs.declared.error.ParseError.{ParseError}
use Rattle.ebpf_parts.specs.declared.error.ParseError.TheVariants as errors
use Rattle.ebpf_parts.specs.declared.maps.either.Map.{Map}
use Rattle.ebpf_parts.specs.declared.parse_mode.ParseMode.{ParseMode}

-- ---- names

module _ (m : FinMap text_cmp (List DataSecEntry)) (name : List ℕ) (more : List DataSecEntry) (q : List ℕ) (es : List DataSecEntry) where
  abbrev Found : Bool → Type 0
  Found b = (had : List DataSecEntry) × (get m q ≡ Some had) × (es ≡ had ++ (if b then more else []))

  -- the entries of a name, once some were added
  noted : get (with_entries m name more) q ≡ Some es → Found (bytes_eq name q)
  unfolding with_entries
  noted at = by_had (get m name) refl at
    where
      absent : (b : Bool) → bytes_eq name q ≡ b → get m name ≡ None → get m q ≡ Some es → Found b
      absent true p none there =
          let same : name ≡ q = (bytes_eq-Decides name q).0 p in
          let wrong : None ≡ Some es = sym none ∙ ap (get m) same ∙ there in
          absurd (cc)
      absent false p none there = (es, there, sym (append-nil es))

      put : (b : Bool) → bytes_eq name q ≡ b → (had : List DataSecEntry) → get m name ≡ Some had → cond b (Some (had ++ more)) (get m q) ≡ Some es → Found b
      put true p had is there =
          let same : name ≡ q = (bytes_eq-Decides name q).0 p in
          let value : had ++ more ≡ es = cc in
          (had, ap (get m) (sym same) ∙ is, sym value)
      put false p had is there = (es, there, sym (append-nil es))

      by_had : (o : Option (List DataSecEntry)) → get m name ≡ o → get (if_some o (λ had. insert m name (had ++ more)) m) q ≡ Some es → Found (bytes_eq name q)
      by_had None is there = absent (bytes_eq name q) refl is there
      by_had (Some had) is there =
          put (bytes_eq name q) refl had is
          (sym (get-insert text_total m name (had ++ more) q ∙ ap (λ b. cond b (Some (had ++ more)) (get m q)) (same_tests q name)) ∙ there)

-- a name that was looked for is looked for still
with_more_stay : (m : FinMap text_cmp (List DataSecEntry)) (name : List ℕ) (more : List DataSecEntry) (q : List ℕ) → is_some (get m q) ≡ true → is_some (get (with_entries m name more) q) ≡ true
unfolding with_entries
with_more_stay m name more q there = by_had (get m name)
  where
    put : (b : Bool) (had : List DataSecEntry) → is_some (cond b (Some had) (get m q)) ≡ true
    put true had = refl
    put false had = there

    by_had : (o : Option (List DataSecEntry)) → is_some (get (if_some o (λ had. insert m name (had ++ more)) m) q) ≡ true
    by_had None = there
    by_had (Some had) = ap is_some (get-insert text_total m name (had ++ more) q) ∙ put (eq_by_cmp text_cmp q name) (had ++ more)

-- more entries of a name that is looked for
pub with_more : (m n : FinMap text_cmp (List DataSecEntry)) (name : List ℕ) (had more : List DataSecEntry) → get m name ≡ Some had → n ≡ insert m name (had ++ more) → n ≡ with_entries m name more
unfolding with_entries
with_more m n name had more there is = is ∙ sym (ap (λ o. if_some o (λ had. insert m name (had ++ more)) m) there)

-- no name is looked for
pub none_wanted : (longest : ℕ) (m : FinMap text_cmp (List DataSecEntry)) → m ≡ empty → AreWithoutEntries longest m
none_wanted longest m is = record { is = λ q ids at. let wrong : None ≡ Some ids = sym (get-empty text_cmp q) ∙ ap (λ x. get x q) (sym is) ∙ at in absurd (cc) }

-- one more name that is looked for
pub wanted_more : (longest more : ℕ) (m n : FinMap text_cmp (List DataSecEntry)) (name : List ℕ) → AreWithoutEntries longest m → longest ≤ more → length name ≤ more → n ≡ insert m name [] → AreWithoutEntries more n
wanted_more longest more m n name before up here is = record { is = λ q ids at. step q ids (eq_by_cmp text_cmp q name) refl (sym (ap (λ x. get x q) is ∙ get-insert text_total m name [] q) ∙ at) }
  where
    step : (q : List ℕ) (ids : List DataSecEntry) (b : Bool) → eq_by_cmp text_cmp q name ≡ b → cond (eq_by_cmp text_cmp q name) (Some []) (get m q) ≡ Some ids → (ids ≡ []) × (length q ≤ more)
    step q ids true p at =
        let same : q ≡ name = text_exact q name (is_equal _ p) in
        let value : Some [] ≡ Some ids = sym (ap (λ b. cond b (Some []) (get m q)) p) ∙ at in
        (cc, omega (arith, ap length same))
    step q ids false p at =
        let there : get m q ≡ Some ids = sym (ap (λ b. cond b (Some []) (get m q)) p) ∙ at in
        let was : (ids ≡ []) × (length q ≤ longest) = before.is q ids there in
        (was.0, omega (arith, was.1))

-- one name alone is looked for
pub one_wanted : (m n : FinMap text_cmp (List DataSecEntry)) (name : List ℕ) (longest : ℕ) → m ≡ empty → longest ≡ length name → n ≡ insert m name [] → AreWithoutEntries longest n
one_wanted m n name longest none long put = wanted_more 0 longest m n name (none_wanted 0 m none) (omega (arith)) (omega (arith, long)) put

pub one_there : (m n : FinMap text_cmp (List DataSecEntry)) (name : List ℕ) → n ≡ insert m name [] → is_some (get n name) ≡ true
one_there m n name put = ap (λ x. is_some (get x name)) put ∙ ap is_some (get-insert text_total m name [] name) ∙ by_test (eq_by_cmp text_cmp name name) ((eq_by_cmp_equiv text_total).refl name)
  where
    by_test : (b : Bool) → b ≡ true → is_some (cond b (Some []) (get m name)) ≡ true
    by_test true e = refl
    by_test false e = absurd (cc)

-- ---- the types that are left

-- what the entries so far and the types that are left declare is what all types declare
pub record AreGathered (info : TypeInfo) (start : FinMap text_cmp (List DataSecEntry)) (longest : ℕ) (m : FinMap text_cmp (List DataSecEntry)) (rest : List BtfType) : Type 0 where
  pub stay : Stay start m
  pub within : NamesAreWithin longest m
  pub maps : (mode : ParseMode) (q : List ℕ) (es : List DataSecEntry) → get m q ≡ Some es → (symbols : List ℕ → Option ℕ) (section : ℕ)
      → entries_maps mode info symbols section es ++ flat_map (type_maps mode info symbols section q) rest ≡ btf_maps mode info symbols section q
  pub fault : (mode : ParseMode) (q : List ℕ) (es : List DataSecEntry) → get m q ≡ Some es → (symbols : List ℕ → Option ℕ) (section : ℕ)
      → or_else (entries_fault mode info symbols section es) (first_some (type_maps_fault mode info symbols section q) rest) ≡ btf_maps_fault mode info symbols section q

pub all_left : (info : TypeInfo) (longest : ℕ) (m : FinMap text_cmp (List DataSecEntry)) → AreWithoutEntries longest m → AreGathered info m longest m info.types
all_left info longest m wanted_names = record {
  stay = λ q there. there;
  within = record { is = λ q es at. (wanted_names.is q es at).1 };
  maps = λ mode q es at symbols section. ap (λ l. entries_maps mode info symbols section l ++ flat_map (type_maps mode info symbols section q) info.types) (wanted_names.is q es at).0;
  fault = λ mode q es at symbols section. ap (λ l. or_else (entries_fault mode info symbols section l) (first_some (type_maps_fault mode info symbols section q) info.types)) (wanted_names.is q es at).0;
}

pub none_left : (info : TypeInfo) (start : FinMap text_cmp (List DataSecEntry)) (longest : ℕ) (found : NamedSections) → AreGathered info start longest found.by_name [] → found.unreadable ≡ None → AreFound info found
none_left info start longest found gathered readable = record {
  maps = λ mode q es at none symbols section. sym (append-nil (entries_maps mode info symbols section es)) ∙ gathered.maps mode q es at symbols section;
  fault = λ mode q es at symbols section. ap (λ u. or_else (entries_fault mode info symbols section es) (unreadable_name_fault u)) readable ∙ gathered.fault mode q es at symbols section;
}

-- what a search meets at a type, by its entries and its name
abbrev matched_by : Option (List DataSecEntry) → Result (List ℕ) BtfError → List ℕ → Option DatasecMatch
matched_by es r q = if_some es (λ entries. datasec_match_if entries (if_ok r (λ read. Ok (bytes_eq read q)))) None

abbrev fault_by_name : Option (List DataSecEntry) → Result (List ℕ) BtfError → Option BtfError
fault_by_name es r = if_some es (λ entries. fault_of r) None

module _ (mode : ParseMode) (info : TypeInfo) (symbols : List ℕ → Option ℕ) (section : ℕ) (q : List ℕ) where
  one_maps : (met : Option DatasecMatch) → entries_maps mode info symbols section (matched_entries met) ≡ matched_maps mode info symbols section met
  one_maps None = refl
  one_maps (Some (Named es)) = refl
  one_maps (Some (UnreadableName e)) = refl

  one_fault : (es : Option (List DataSecEntry)) (r : Result (List ℕ) BtfError) → fault_by_name es r ≡ None
      → entries_fault mode info symbols section (matched_entries (matched_by es r q)) ≡ matched_maps_fault mode info symbols section (matched_by es r q)
  one_fault None r none = refl
  one_fault (Some es) (Err e) none = absurd (cc)
  one_fault (Some es) (Ok name) none = by_name (bytes_eq name q)
    where
      by_name : (b : Bool) → entries_fault mode info symbols section (matched_entries (datasec_match_if es (Ok b))) ≡ matched_maps_fault mode info symbols section (datasec_match_if es (Ok b))
      by_name true = refl
      by_name false = refl

  last_fault : (es : Option (List DataSecEntry)) (r : Result (List ℕ) BtfError) (e : BtfError) → fault_by_name es r ≡ Some e
      → matched_maps_fault mode info symbols section (matched_by es r q) ≡ Some (errors.BtfError e)
  last_fault None r e is = absurd (cc)
  last_fault (Some es) (Ok name) e is = absurd (cc)
  last_fault (Some es) (Err d) e is = let same : d ≡ e = cc in ap (λ x. Some (errors.BtfError x)) same

-- what is met, by its name's text
matched_text : (es : List DataSecEntry) (r : Result (List ℕ) BtfError) (q : List ℕ) → matched_entries (matched_by (Some es) r q) ≡ (if is_text q r then es else [])
matched_text es (Err e) q = refl
matched_text es (Ok name) q = by_name (bytes_eq name q)
  where
    by_name : (b : Bool) → matched_entries (datasec_match_if es (Ok b)) ≡ (if b then es else [])
    by_name true = refl
    by_name false = refl

-- a type that was looked at, by its entries and its name
module _ (info : TypeInfo) (t : BtfType) (m : FinMap text_cmp (List DataSecEntry)) where
  same_entries : ((q : List ℕ) (es : List DataSecEntry) → get m q ≡ Some es → matched_entries (datasec_match info q t) ≡ []) → EntriesAreAdded info t m m
  same_entries other = record {
    entries = λ q es at. (es, at, sym (append-nil es) ∙ ap (λ l. es ++ l) (sym (other q es at)));
    stay = λ q there. there;
  }

  pub not_section : datasec_entries t ≡ None → EntriesAreAdded info t m m × (datasec_name_fault info t ≡ None)
  unfolding datasec_match datasec_name_fault
  not_section none = (
    same_entries (λ q es at. ap (λ o. matched_entries (matched_by o (text_at info.strings (name_off t)) q)) none),
    ap (λ o. fault_by_name o (text_at info.strings (name_off t))) none,
  )

  module _ (entries : List DataSecEntry) (section : datasec_entries t ≡ Some entries) where
    met : (q : List ℕ) → matched_entries (datasec_match info q t) ≡ (if is_text q (text_at info.strings (name_off t)) then entries else [])
    unfolding datasec_match
    met q = ap (λ o. matched_entries (matched_by o (text_at info.strings (name_off t)) q)) section ∙ matched_text entries (text_at info.strings (name_off t)) q

    pub unreadable : is_err (is_name_at info.strings (name_off t) []) ≡ true → datasec_name_fault info t ≡ Some (InvalidStringOffset (name_off t))
    unfolding datasec_name_fault text_at
    unreadable wrong = ap (λ o. fault_by_name o (text_at info.strings (name_off t))) section ∙ by_text (before_zero (drop (name_off t) info.strings)) wrong
      where
        by_text : (b : Option (List ℕ)) → is_err (if_ok (text_or_fault (name_off t) b) (λ read. Ok (bytes_eq read []))) ≡ true → fault_of (text_or_fault (name_off t) b) ≡ Some (InvalidStringOffset (name_off t))
        by_text None wrong = refl
        by_text (Some bytes) wrong = absurd (cc)

    readable : is_err (is_name_at info.strings (name_off t) []) ≡ false → datasec_name_fault info t ≡ None
    unfolding datasec_name_fault
    readable right = ap (λ o. fault_by_name o (text_at info.strings (name_off t))) section ∙ by_text (text_at info.strings (name_off t)) right
      where
        by_text : (r : Result (List ℕ) BtfError) → is_err (if_ok r (λ read. Ok (bytes_eq read []))) ≡ false → fault_of r ≡ None
        by_text (Ok name) right = refl
        by_text (Err e) right = absurd (cc)

    -- a DATASEC whose name is longer than those that are looked for
    pub long_name : (longest : ℕ) (bytes : List ℕ) → NamesAreWithin longest m → is_err (is_name_at info.strings (name_off t) []) ≡ false
        → bytes ≡ take (longest + 1) (drop (name_off t) info.strings) → is_some (position (λ b. b == 0) bytes) ≡ false
        → EntriesAreAdded info t m m × (datasec_name_fault info t ≡ None)
    long_name longest bytes within right are none = (
      same_entries (λ q es at. met q ∙ ap (λ b. if b then entries else []) (too_long info.strings bytes q (name_off t) longest are none (within.is q es at))),
      readable right,
    )

    -- one whose name was read
    pub read_name : (name : List ℕ) (n : FinMap text_cmp (List DataSecEntry)) → is_err (is_name_at info.strings (name_off t) []) ≡ false
        → text_at info.strings (name_off t) ≡ Ok name → n ≡ with_entries m name entries → EntriesAreAdded info t m n × (datasec_name_fault info t ≡ None)
    read_name name n right is put = (
      record {
        entries = λ q es at.
            let p : (had : List DataSecEntry) × (get m q ≡ Some had) × (es ≡ had ++ (if bytes_eq name q then entries else [])) = noted m name entries q es (ap (λ x. get x q) (sym put) ∙ at) in
            (p.0, p.1, p.2 ∙ ap (λ l. p.0 ++ l) (sym (met q ∙ ap (λ r. if is_text q r then entries else []) is)));
        stay = λ q there. ap (λ x. is_some (get x q)) put ∙ with_more_stay m name entries q there;
      },
      readable right,
    )

module _ (info : TypeInfo) (t : BtfType) (start : FinMap text_cmp (List DataSecEntry)) (longest : ℕ) (m : FinMap text_cmp (List DataSecEntry)) (rest : List BtfType) (gathered : AreGathered info start longest m (t ∷ rest)) where
  -- a type that was looked at
  pub one_less : (n : FinMap text_cmp (List DataSecEntry)) → EntriesAreAdded info t m n → datasec_name_fault info t ≡ None → AreGathered info start longest n rest
  unfolding datasec_match datasec_name_fault type_maps type_maps_fault
  one_less n added readable = record {
    stay = λ q there. added.stay q (gathered.stay q there);
    within = record { is = λ q es there. let p = added.entries q es there in gathered.within.is q p.0 p.1 };
    maps = λ mode q es there symbols section.
        let p : (had : List DataSecEntry) × (get m q ≡ Some had) × (es ≡ had ++ matched_entries (datasec_match info q t)) = added.entries q es there in
        let left = flat_map (type_maps mode info symbols section q) rest in
        let more = matched_entries (datasec_match info q t) in
        ap (λ l. entries_maps mode info symbols section l ++ left) p.2
        ∙ ap (λ l. l ++ left) (flat_map-append (λ entry. given (entry_map mode info symbols section entry)) p.0 more)
        ∙ append_assoc (entries_maps mode info symbols section p.0) (entries_maps mode info symbols section more) left
        ∙ ap (λ l. entries_maps mode info symbols section p.0 ++ (l ++ left)) (one_maps mode info symbols section q (datasec_match info q t))
        ∙ gathered.maps mode q p.0 p.1 symbols section;
    fault = λ mode q es there symbols section.
        let p : (had : List DataSecEntry) × (get m q ≡ Some had) × (es ≡ had ++ matched_entries (datasec_match info q t)) = added.entries q es there in
        let left = first_some (type_maps_fault mode info symbols section q) rest in
        let more = matched_entries (datasec_match info q t) in
        ap (λ l. or_else (entries_fault mode info symbols section l) left) p.2
        ∙ ap (λ l. or_else l left) (first_some-append (λ entry. fault_of (entry_map mode info symbols section entry)) p.0 more)
        ∙ or_else-assoc (entries_fault mode info symbols section p.0) (entries_fault mode info symbols section more) left
        ∙ ap (λ l. or_else (entries_fault mode info symbols section p.0) (or_else l left)) (one_fault mode info symbols section q (datasec_entries t) (text_at info.strings (name_off t)) readable)
        ∙ gathered.fault mode q p.0 p.1 symbols section;
  }

  -- a name that can't be read
  pub stopped : (offset : ℕ) (n : FinMap text_cmp (List DataSecEntry)) (found : NamedSections) → n ≡ m → datasec_name_fault info t ≡ Some (InvalidStringOffset offset) → found ≡ record { by_name = n; unreadable = Some offset } → AreFound info found
  unfolding datasec_match datasec_name_fault type_maps_fault
  stopped offset n found same is made = record {
    maps = λ mode q es at none symbols section. let wrong : Some offset ≡ None = sym (ap (λ (f : NamedSections). f.unreadable) made) ∙ none in absurd (cc);
    fault = λ mode q es at symbols section.
        ap (λ (f : NamedSections). or_else (entries_fault mode info symbols section es) (unreadable_name_fault f.unreadable)) made
        ∙ ap (λ x. or_else (entries_fault mode info symbols section es) (or_else x (first_some (type_maps_fault mode info symbols section q) rest)))
        (sym (last_fault mode info symbols section q (datasec_entries t) (text_at info.strings (name_off t)) (InvalidStringOffset offset) is))
        ∙ gathered.fault mode q es (ap (λ x. get x q) (sym same) ∙ ap (λ (f : NamedSections). get f.by_name q) (sym made) ∙ at) symbols section;
  }

-- a fault that comes first
pub refused_first : {E : Type 0} (memory : E → Bool) (e : E) (first later : Option E) → MatchBool (memory e) ⊤ (first ≡ Some e) → MatchBool (memory e) ⊤ (or_else first later ≡ Some e)
refused_first memory e first later h = elim (memory e) as (λ b. MatchBool b ⊤ (first ≡ Some e) → MatchBool b ⊤ (or_else first later ≡ Some e)) [
  | true ↦ λ g. g
  | false ↦ λ g. ap (λ x. or_else x later) g
] h

-- ---- one name

same_choice : {X : Type 0} (b : Bool) (x : X) → x ≡ (if b then x else x)
same_choice true x = refl
same_choice false x = refl

-- the map of a name, by its definitions and its symbol
abbrev map_by : ℕ → Option MapDefinitions → Option ℕ → Option Map
map_by section o y = if_some y (λ y. if_some o (λ d. Some (map_at d section y)) None) None

abbrev with_symbol_by : ℕ → List ℕ → Option MapDefinitions → Option ℕ → List (List ℕ × Map)
with_symbol_by section name o y = if_some o (λ d. given (if_some y (λ y. Ok (name, map_at d section y)) (Err (errors.SymbolNotFound name)))) []

one_at : (section : ℕ) (q name : List ℕ) (a : Option Map) (o : Option MapDefinitions) (y : Option ℕ)
    → last_at text_cmp q a (with_symbol_by section name o y) ≡ (if eq_by_cmp text_cmp q name then or_else (map_by section o y) a else a)
one_at section q name a (Some d) (Some y) = refl
one_at section q name a (Some d) None = same_choice (eq_by_cmp text_cmp q name) a
one_at section q name a None (Some y) = same_choice (eq_by_cmp text_cmp q name) a
one_at section q name a None None = same_choice (eq_by_cmp text_cmp q name) a

over_before : (section : ℕ) (d : MapDefinitions) (o : Option MapDefinitions) (y : Option ℕ) (a : Option Map)
    → or_else (map_by section (Some d) y) a ≡ or_else (map_by section (Some d) y) (or_else (map_by section o y) a)
over_before section d o None a = refl
over_before section d o (Some y) a = refl

not_defined : (section : ℕ) (y : Option ℕ) → map_by section None y ≡ None
not_defined section None = refl
not_defined section (Some y) = refl

missing_fault : (section : ℕ) (name : List ℕ) (d : MapDefinitions) (y : Option ℕ)
    → fault_of {X = List ℕ × Map} (if_some y (λ y. Ok (name, map_at d section y)) (Err (errors.SymbolNotFound name))) ≡ if_some y (λ y. None) (Some (errors.SymbolNotFound name))
missing_fault section name d None = refl
missing_fault section name d (Some y) = refl

-- ---- maps with the same last definitions of each name

module _ (symbols : List ℕ → Option ℕ) (section : ℕ) (q : List ℕ) where
  at_maps : (es : List (List ℕ × MapDefinitions)) (b : Option MapDefinitions) (a : Option Map)
      → last_at text_cmp q (or_else (map_by section b (symbols q)) a) (defined_maps symbols section es) ≡ or_else (map_by section (last_at text_cmp q b es) (symbols q)) a
  at_maps [] b a = refl
  at_maps (e ∷ es) b a =
      last_at-append text_cmp q (or_else (map_by section b (symbols q)) a) (given (map_with_symbol symbols section (Ok e))) (defined_maps symbols section es)
      ∙ ap (λ x. last_at text_cmp q x (defined_maps symbols section es))
      (one_at section q e.0 (or_else (map_by section b (symbols q)) a) (Some e.1) (symbols e.0) ∙ by_test (eq_by_cmp text_cmp q e.0) refl)
      ∙ at_maps es (if eq_by_cmp text_cmp q e.0 then Some e.1 else b) a
    where
      by_test : (t : Bool) → eq_by_cmp text_cmp q e.0 ≡ t
          → (if t then or_else (map_by section (Some e.1) (symbols e.0)) (or_else (map_by section b (symbols q)) a) else or_else (map_by section b (symbols q)) a)
          ≡ or_else (map_by section (if t then Some e.1 else b) (symbols q)) a
      by_test true at =
          ap (λ n. or_else (map_by section (Some e.1) (symbols n)) (or_else (map_by section b (symbols q)) a)) (sym (at_name q e.0 at))
          ∙ sym (over_before section e.1 b (symbols q) a)
      by_test false at = refl

  at_all : (m : FinMap text_cmp Map) (es : List (List ℕ × MapDefinitions)) → get (put_all m (defined_maps symbols section es)) q ≡ or_else (map_by section (last_at text_cmp q None es) (symbols q)) (get m q)
  at_all m es =
      later_text_stands m (defined_maps symbols section es) q
      ∙ ap (λ o. last_at text_cmp q (or_else o (get m q)) (defined_maps symbols section es)) (sym (not_defined section (symbols q)))
      ∙ at_maps es None (get m q)

-- ---- entries without a fault

module _ (mode : ParseMode) (info : TypeInfo) (first : List ℕ → Option ℕ) (symbols : List ℕ → Option ℕ) (section : ℕ) where
  abbrev declarations : List DataSecEntry → List (List ℕ × MapDefinitions)
  declarations entries = flat_map (λ entry. given (declared mode info entry)) entries

  as_declared : (entry : DataSecEntry) → fault_of (entry_map mode info first 0 entry) ≡ None
      → (given (entry_map mode info symbols section entry) ≡ defined_maps symbols section (given (declared mode info entry)))
      × (fault_of (entry_map mode info symbols section entry) ≡ first_some (λ p. missing symbols p.0) (given (declared mode info entry)))
  unfolding entry_map
  as_declared entry clear = by_declared (declared mode info entry) clear
    where
      by_declared : (r : Result (List ℕ × MapDefinitions) BtfError) → fault_of (map_with_symbol first 0 r) ≡ None
          → (given (map_with_symbol symbols section r) ≡ defined_maps symbols section (given r)) × (fault_of (map_with_symbol symbols section r) ≡ first_some (λ p. missing symbols p.0) (given r))
      by_declared (Err e) clear = absurd (cc)
      by_declared (Ok p) clear = (sym (append-nil (given (map_with_symbol symbols section (Ok p)))), missing_fault section p.0 p.1 (symbols p.0) ∙ sym (or_else-None (missing symbols p.0)))

  all_declared : (entries : List DataSecEntry) → entries_fault mode info first 0 entries ≡ None
      → (entries_maps mode info symbols section entries ≡ defined_maps symbols section (declarations entries))
      × (entries_fault mode info symbols section entries ≡ first_some (λ p. missing symbols p.0) (declarations entries))
  all_declared [] clear = (refl, refl)
  all_declared (entry ∷ entries) clear =
      let both = both_None (fault_of (entry_map mode info first 0 entry)) (entries_fault mode info first 0 entries) clear in
      let here = as_declared entry both.0 in
      let later = all_declared entries both.1 in (
        ap (λ l. l ++ entries_maps mode info symbols section entries) here.0 ∙ ap (λ l. defined_maps symbols section (given (declared mode info entry)) ++ l) later.0
            ∙ sym (flat_map-append (λ p. given (map_with_symbol symbols section (Ok p))) (given (declared mode info entry)) (declarations entries)),
        ap (λ o. or_else o (entries_fault mode info symbols section entries)) here.1 ∙ ap (or_else (first_some (λ p. missing symbols p.0) (given (declared mode info entry)))) later.1
            ∙ sym (first_some-append (λ p. missing symbols p.0) (given (declared mode info entry)) (declarations entries)),
      )

-- ---- the entries of the DATASECs of a name

module _ (mode : ParseMode) (info : TypeInfo) (sections : NamedSections) (found : AreFound info sections) (name : List ℕ) (entries : List DataSecEntry) (there : get sections.by_name name ≡ Some entries) where
  pub are_maps : sections.unreadable ≡ None → (first : List ℕ → Option ℕ) → entries_fault mode info first 0 entries ≡ None → (k : DistinctMaps)
      → AreKept k.names.names k.last (flat_map (λ entry. given (declared mode info entry)) entries) → AreMapsOf mode info name k
  are_maps readable first clear k kept = record {
    maps = λ symbols section m q.
        at_all symbols section q m (zip k.names.names k.last)
        ∙ ap (λ o. or_else (map_by section o (symbols q)) (get m q)) (kept.values q None)
        ∙ sym (at_all symbols section q m (declarations mode info first symbols section entries))
        ∙ ap (λ l. get (put_all m l) q) (sym (all_declared mode info first symbols section entries clear).0 ∙ found.maps mode name entries there readable symbols section);
    fault = λ symbols section.
        kept.first (missing symbols) ∙ sym (all_declared mode info first symbols section entries clear).1
        ∙ sym (or_else-None (entries_fault mode info symbols section entries))
        ∙ ap (λ u. or_else (entries_fault mode info symbols section entries) (unreadable_name_fault u)) (sym readable)
        ∙ found.fault mode name entries there symbols section;
  }

  -- the fault of an entry comes first
  pub entry_refused : (symbols : List ℕ → Option ℕ) (e : ParseError) → MatchBool (is_parse_memory e) ⊤ (entries_fault mode info symbols 0 entries ≡ Some e)
      → MatchBool (is_parse_memory e) ⊤ (btf_maps_fault mode info symbols 0 name ≡ Some e)
  entry_refused symbols e h =
      subst (λ x. MatchBool (is_parse_memory e) ⊤ (x ≡ Some e)) (found.fault mode name entries there symbols 0)
      (refused_first is_parse_memory e (entries_fault mode info symbols 0 entries) (unreadable_name_fault sections.unreadable) h)

  -- without one the name that can't be read is the fault
  pub unreadable_refused : (symbols : List ℕ → Option ℕ) → entries_fault mode info symbols 0 entries ≡ None → btf_maps_fault mode info symbols 0 name ≡ unreadable_name_fault sections.unreadable
  unreadable_refused symbols clear = sym (found.fault mode name entries there symbols 0) ∙ ap (λ o. or_else o (unreadable_name_fault sections.unreadable)) clear

-- ---- by the names of sections

pub none_kept : (mode : ParseMode) (info : TypeInfo) (kept : FinMap text_cmp DistinctMaps) → kept ≡ empty → AreSectionMaps mode info kept
none_kept mode info kept is = record { are = λ name k at. let wrong : None ≡ Some k = sym (get-empty text_cmp name) ∙ ap (λ x. get x name) (sym is) ∙ at in absurd (cc) }

pub one_kept : {V E : Type 0} (mode : ParseMode) (info : TypeInfo) (name : List ℕ) (k : DistinctMaps) → AreMapsOf mode info name k → (kept after : FinMap text_cmp DistinctMaps) → AreSectionMaps mode info kept
    → (r : Result V E) → OnOk r (after ≡ insert kept name k) → OnErr r (after ≡ kept) → AreSectionMaps mode info after
one_kept mode info name k one kept after before (Err e) put same = subst (AreSectionMaps mode info) (sym same) before
one_kept mode info name k one kept after before (Ok v) put same = record { are = λ q e at. by_test q e (eq_by_cmp text_cmp q name) refl (sym (ap (λ x. get x q) put ∙ get-insert text_total kept name k q) ∙ at) }
  where
    by_test : (q : List ℕ) (e : DistinctMaps) (b : Bool) → eq_by_cmp text_cmp q name ≡ b → cond b (Some k) (get kept q) ≡ Some e → AreMapsOf mode info q e
    by_test q e true here at = let same : k ≡ e = cc in subst (λ n. AreMapsOf mode info n e) (sym (at_name q name here)) (subst (AreMapsOf mode info name) same one)
    by_test q e false here at = before.are q e at

-- what is put
pub same_maps : (mode : ParseMode) (info : TypeInfo) (name : List ℕ) (k : DistinctMaps) → AreMapsOf mode info name k → (symbols : List ℕ → Option ℕ) (section : ℕ) (m : FinMap text_cmp Map)
    → put_all m (distinct_maps symbols section k) ≡ put_all m (btf_maps mode info symbols section name)
same_maps mode info name k are symbols section m = same_map text_total text_exact _ _ (are.maps symbols section m)

-- ---- faults

-- the fault is the same in all sections with the same symbols
module _ (mode : ParseMode) (info : TypeInfo) (symbols : List ℕ → Option ℕ) (section other : ℕ) where
  same_entry : (entry : DataSecEntry) → fault_of (entry_map mode info symbols section entry) ≡ fault_of (entry_map mode info symbols other entry)
  unfolding entry_map
  same_entry entry = by_declared (declared mode info entry)
    where
      by_declared : (r : Result (List ℕ × MapDefinitions) BtfError) → fault_of (map_with_symbol symbols section r) ≡ fault_of (map_with_symbol symbols other r)
      by_declared (Err e) = refl
      by_declared (Ok d) = missing_fault section d.0 d.1 (symbols d.0) ∙ sym (missing_fault other d.0 d.1 (symbols d.0))

  same_type : (name : List ℕ) (t : BtfType) → type_maps_fault mode info symbols section name t ≡ type_maps_fault mode info symbols other name t
  unfolding type_maps_fault
  same_type name t = by_match (datasec_match info name t)
    where
      by_match : (m : Option DatasecMatch) → matched_maps_fault mode info symbols section m ≡ matched_maps_fault mode info symbols other m
      by_match None = refl
      by_match (Some (UnreadableName e)) = refl
      by_match (Some (Named entries)) = λ i. first_some (λ entry. same_entry entry i) entries

  pub same_fault : (name : List ℕ) → btf_maps_fault mode info symbols section name ≡ btf_maps_fault mode info symbols other name
  same_fault name = λ i. first_some (λ t. same_type name t i) info.types
