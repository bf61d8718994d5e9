-- One patch is written.
use Rattle.std.proofs.Common.{◌≡◌, List, ℕ, Some, sym, ap, ◌∙◌, ◌+◌, ◌-◌, ◌≤◌, true, false, ◌||◌, [], ◌∷◌, ◌++◌, length, Option, None, Ok, Err, refl, subst, slice_get, nat_le, leb-true, if◌then◌else◌, ◌==◌, ◌⊎◌, inl, inr, ⊎_elim, flat_map, Bool, option_map, option_and_then}
use Rattle.std.specs.FinMap.{FinMap, get, insert, entries, contains_key-keys}
use Rattle.std.specs.List.{AllByRecursion, list_any}
use Rattle.std.specs.List.Sorted.{IsStrictlySortedBy}
use Rattle.std.specs.Map.{keys_of}
use Rattle.std.specs.Ordering.{nat_cmp, eq_by_cmp}
use Rattle.std.specs.Option.{is_some}
use Rattle.std.specs.declared.cmp.Ordering.TheVariants.{Less}
use Rattle.std.proofs.lemmas.Map.Keys.{sorted_head, sorted_tail}
use Rattle.ebpf_base.proofs.Faults.{both_None}
use Rattle.ebpf_base.proofs.Maps.{entries_rise}
use Rattle.ebpf_base.specs.Faults.{first_some, fault_of}
use Rattle.ebpf_base.specs.Maps.{text_cmp}
use Rattle.ebpf_model.specs.declared.symbol.Symbol.{Symbol}
use Rattle.ebpf_object.proofs.PatchedPlaces.{one_or_other, patched_beside, patched_within, patched_long, all_long, all_but}
use Rattle.ebpf_object.specs.Patches.{PatchValue, overwritten, with_patch, patched_at, Global, all_patched, map_data_of, patches_in, patches_at, patch_of, by_symbol, of_symbol, in_map, map_in_section, symbol_named, patches_of, byte_at, Covers, GreatestNameStands, OtherBytesStay, LengthsStay, MapsStay, patch_fault_at, PatchesAreValues, ValuesArePatches}
use Rattle.ebpf_parts.specs.Maps.{bytes_of, with_bytes}
use Rattle.ebpf_parts.specs.declared.error.ParseError.TheVariants.{InvalidGlobalData, SymbolNotFound}
use Rattle.ebpf_parts.specs.declared.maps.either.Map.{Map}

pub written : (maps after : FinMap text_cmp Map) (p : PatchValue) (k : List ℕ) (m w : Map)
    → after ≡ insert maps k w → k ≡ p.map_name → Some m ≡ get maps k → w ≡ with_bytes m (overwritten (bytes_of m) p.offset p.bytes)
    → after ≡ with_patch maps p
written maps after p k m w g e s f =
    g ∙ (λ i. insert maps (e i) (f i)) ∙ sym (ap (patched_at maps p) (ap (get maps) (sym e) ∙ sym s))

-- ---- the greatest name that has a byte for an offset gives it

-- ---- what a variable asks for is nothing, or one patch in the data of its map

abbrev size : FinMap text_cmp Map → List ℕ → ℕ
size maps k = length (map_data_of (get maps k))

abbrev OneAtMost : FinMap text_cmp Map → List PatchValue → Type 0
OneAtMost maps patches = (patches ≡ []) ⊎ ((p : PatchValue) × (patches ≡ p ∷ []) × (p.offset + length p.bytes ≤ size maps p.map_name))

module _ (maps : FinMap text_cmp Map) (name : List ℕ) where
  one_in_map : (bytes : List ℕ) (s : Symbol) (z : Option (List ℕ)) → OneAtMost maps (patches_in (in_map maps name bytes s z))
  one_in_map bytes s None = inl refl
  one_in_map bytes s (Some k) = elim (nat_le (s.address + length bytes) (size maps k)) as (λ b. nat_le (s.address + length bytes) (size maps k) ≡ b
      → OneAtMost maps (patches_in (if b then Ok (record { map_name = k; offset = s.address; bytes = bytes } ∷ []) else Err (InvalidGlobalData name s.size (length bytes))))) [
        | true ↦ λ e. inr (record { map_name = k; offset = s.address; bytes = bytes }, refl, leb-true _ _ e)
        | false ↦ λ e. inl refl
      ] refl

  one_of_symbol : (bytes : List ℕ) (s : Symbol) → OneAtMost maps (patches_in (of_symbol maps name bytes s))
  one_of_symbol bytes s = elim (length bytes == s.size) as (λ b. OneAtMost maps (patches_in (if b then in_map maps name bytes s (map_in_section maps s.section_index) else Err (InvalidGlobalData name s.size (length bytes))))) [
    | true ↦ one_in_map bytes s (map_in_section maps s.section_index)
    | false ↦ inl refl
  ]

  one_by_symbol : (g : Global) (z : Option Symbol) → OneAtMost maps (patches_in (by_symbol maps name g z))
  one_by_symbol g None = elim g.1 as (λ b. OneAtMost maps (patches_in (if b then Err (SymbolNotFound name) else Ok []))) [ true ↦ inl refl | false ↦ inl refl ]
  one_by_symbol g (Some s) = one_of_symbol g.0 s

  one_at : (symbols : FinMap nat_cmp Symbol) (z : Option Global) → OneAtMost maps (patches_at symbols maps name z)
  unfolding patch_of
  one_at symbols None = inl refl
  one_at symbols (Some g) = one_by_symbol g (symbol_named symbols name)

-- ---- over names in order

module _ (start : FinMap text_cmp Map) (f : List ℕ → List PatchValue) (one : (n : List ℕ) → OneAtMost start (f n)) (k : List ℕ) (i : ℕ) where
  abbrev Beside : List ℕ → Type 0
  Beside n = (p : PatchValue) → f n ≡ p ∷ [] → Covers p k i → ⊥

  -- none of them has a byte for the offset
  all_beside : (ns : List (List ℕ)) → AllByRecursion Beside ns → (maps : FinMap text_cmp Map) → byte_at (all_patched maps (flat_map f ns)) k i ≡ byte_at maps k i
  all_beside [] h maps = refl
  all_beside (n ∷ ns) h maps = ⊎_elim
      (λ e. ap (λ ps. byte_at (all_patched maps (ps ++ flat_map f ns)) k i) e ∙ all_beside ns h.1 maps)
      (λ q. ap (λ ps. byte_at (all_patched maps (ps ++ flat_map f ns)) k i) q.1 ∙ all_beside ns h.1 (with_patch maps q.0) ∙ patched_beside maps q.0 k i (h.0 q.0 q.1))
      (one n)

  fits_of : (p : PatchValue) (ps : List PatchValue) → ps ≡ p ∷ [] → OneAtMost start ps → p.offset + length p.bytes ≤ size start p.map_name
  fits_of p ps e = ⊎_elim
      (λ none. absurd (let no : ⊥ = cc in no))
      (λ q. let same : q.0 ≡ p = cc in subst (λ r. r.offset + length r.bytes ≤ size start r.map_name) same q.2)

  module _ (name : List ℕ) (p : PatchValue) (asks : f name ≡ p ∷ []) (covers : Covers p k i) (greater : (n : List ℕ) (q : PatchValue) → text_cmp name n ≡ Less → f n ≡ q ∷ [] → Covers q k i → ⊥) where
    beside_greater : (ns : List (List ℕ)) → AllByRecursion (λ n. text_cmp name n ≡ Less) ns → AllByRecursion Beside ns
    beside_greater [] h = tt
    beside_greater (n ∷ ns) h = ((λ q. greater n q h.0), beside_greater ns h.1)

    -- its patch is written, and then none has a byte for the offset
    written_last : (ns : List (List ℕ)) → IsStrictlySortedBy text_cmp (name ∷ ns) → (maps : FinMap text_cmp Map) → ((q : List ℕ) → size maps q ≡ size start q)
        → byte_at (all_patched maps (flat_map f (name ∷ ns))) k i ≡ slice_get p.bytes (i - p.offset)
    written_last ns rises maps long =
        ap (λ ps. byte_at (all_patched maps (ps ++ flat_map f ns)) k i) asks
        ∙ all_beside ns (beside_greater ns (sorted_head text_cmp name ns rises)) (with_patch maps p)
        ∙ patched_within maps p k i covers (subst (λ n. p.offset + length p.bytes ≤ n) (sym (long p.map_name)) (fits_of p (f name) asks (one name)))

    greatest : (ns : List (List ℕ)) → IsStrictlySortedBy text_cmp ns → list_any (eq_by_cmp text_cmp name) ns ≡ true → (maps : FinMap text_cmp Map) → ((q : List ℕ) → size maps q ≡ size start q)
        → byte_at (all_patched maps (flat_map f ns)) k i ≡ slice_get p.bytes (i - p.offset)
    greatest [] rises among maps long = absurd (let no : ⊥ = cc in no)
    greatest (n ∷ ns) rises among maps long = ⊎_elim
        (λ same. subst (λ x. IsStrictlySortedBy text_cmp (x ∷ ns) → byte_at (all_patched maps (flat_map f (x ∷ ns))) k i ≡ slice_get p.bytes (i - p.offset)) same (λ r. written_last ns r maps long) rises)
        (λ differ.
        let left : list_any (eq_by_cmp text_cmp name) ns ≡ true = sym (ap (λ b. b || list_any (eq_by_cmp text_cmp name) ns) differ) ∙ among in
        let later = greatest ns (sorted_tail text_cmp n ns rises) left in
        ⊎_elim
        (λ e. ap (λ ps. byte_at (all_patched maps (ps ++ flat_map f ns)) k i) e ∙ later maps long)
        (λ q. ap (λ ps. byte_at (all_patched maps (ps ++ flat_map f ns)) k i) q.1 ∙ later (with_patch maps q.0) (λ x. patched_long maps q.0 x ∙ long x))
        (one n))
        (one_or_other name n)

-- ---- over the variables

-- a variable with a patch is among those that are given
given : (symbols : FinMap nat_cmp Symbol) (maps : FinMap text_cmp Map) (name : List ℕ) (p : PatchValue) (z : Option Global) → patches_at symbols maps name z ≡ p ∷ [] → is_some z ≡ true
given symbols maps name p None e = cc
given symbols maps name p (Some g) e = refl

all_beside_each : {P : List ℕ → Type 0} → ((n : List ℕ) → P n) → (ns : List (List ℕ)) → AllByRecursion P ns
all_beside_each h [] = tt
all_beside_each h (n ∷ ns) = (h n, all_beside_each h ns)

pub greatest_name_stands : GreatestNameStands
greatest_name_stands symbols maps globals k i name p asks covers greater =
    greatest maps (λ n. patches_at symbols maps n (get globals n)) (λ n. one_at maps n symbols (get globals n)) k i
    name p asks covers greater
    (keys_of (entries globals)) (entries_rise globals) (sym (contains_key-keys globals name) ∙ given symbols maps name p (get globals name) asks)
    maps (λ q. refl)

pub other_bytes_stay : OtherBytesStay
other_bytes_stay symbols maps globals k i beside =
    all_beside maps (λ n. patches_at symbols maps n (get globals n)) (λ n. one_at maps n symbols (get globals n)) k i
    (keys_of (entries globals)) (all_beside_each beside (keys_of (entries globals))) maps

pub lengths_stay : LengthsStay
lengths_stay symbols maps globals k = all_long (patches_of symbols maps globals) maps k

pub maps_stay : MapsStay
maps_stay symbols maps globals k = all_but (patches_of symbols maps globals) maps k

-- ---- the patch of a variable and its value

module _ (maps : FinMap text_cmp Map) (name : List ℕ) (p : PatchValue) where
  in_map_value : (bytes : List ℕ) (s : Symbol) (z : Option (List ℕ)) → patches_in (in_map maps name bytes s z) ≡ p ∷ [] → (bytes ≡ p.bytes) × (s.address ≡ p.offset) × (z ≡ Some p.map_name)
  in_map_value bytes s None = λ e. absurd (let no : ⊥ = cc in no)
  in_map_value bytes s (Some k) = elim (nat_le (s.address + length bytes) (length (map_data_of (get maps k)))) as (λ b.
      patches_in (if b then Ok (record { map_name = k; offset = s.address; bytes = bytes } ∷ []) else Err (InvalidGlobalData name s.size (length bytes))) ≡ p ∷ []
      → (bytes ≡ p.bytes) × (s.address ≡ p.offset) × (Some k ≡ Some p.map_name)) [
        | true ↦ λ e.
            let same : ◌≡◌ {A = PatchValue} (record { map_name = k; offset = s.address; bytes = bytes }) p = cc in
            (ap (λ q. q.bytes) same, ap (λ q. q.offset) same, ap (λ q. Some q.map_name) same)
        | false ↦ λ e. absurd (let no : ⊥ = cc in no)
      ]

  symbol_value : (bytes : List ℕ) (s : Symbol) → patches_in (of_symbol maps name bytes s) ≡ p ∷ [] → (bytes ≡ p.bytes) × (s.address ≡ p.offset) × (map_in_section maps s.section_index ≡ Some p.map_name)
  symbol_value bytes s = elim (length bytes == s.size) as (λ b.
      patches_in (if b then in_map maps name bytes s (map_in_section maps s.section_index) else Err (InvalidGlobalData name s.size (length bytes))) ≡ p ∷ []
      → (bytes ≡ p.bytes) × (s.address ≡ p.offset) × (map_in_section maps s.section_index ≡ Some p.map_name)) [
        | true ↦ in_map_value bytes s (map_in_section maps s.section_index)
        | false ↦ λ e. absurd (let no : ⊥ = cc in no)
      ]

  none_without_symbol : (must_exist : Bool) → patches_in (if must_exist then Err (SymbolNotFound name) else Ok []) ≡ p ∷ [] → ⊥
  none_without_symbol true e = cc
  none_without_symbol false e = cc

  value_by_symbol : (g : Global) (z : Option Symbol) → patches_in (by_symbol maps name g z) ≡ p ∷ []
      → (g.0 ≡ p.bytes) × (option_map (λ s. s.address) z ≡ Some p.offset) × (option_and_then (λ s. map_in_section maps s.section_index) z ≡ Some p.map_name)
  value_by_symbol g None e = absurd (none_without_symbol g.1 e)
  value_by_symbol g (Some s) e =
      let known = symbol_value g.0 s e in
      (known.0, ap Some known.1, known.2)

  value_at : (symbols : FinMap nat_cmp Symbol) (z : Option Global) → patches_at symbols maps name z ≡ p ∷ []
      → (option_map (λ g. g.0) z ≡ Some p.bytes) × (option_map (λ s. s.address) (symbol_named symbols name) ≡ Some p.offset) × (option_and_then (λ s. map_in_section maps s.section_index) (symbol_named symbols name) ≡ Some p.map_name)
  unfolding patch_of
  value_at symbols None e = absurd (let no : ⊥ = cc in no)
  value_at symbols (Some g) e =
      let known = value_by_symbol g (symbol_named symbols name) e in
      (ap Some known.0, known.1, known.2)

pub patches_are_values : PatchesAreValues
patches_are_values symbols maps globals name p asks = value_at maps name p symbols (get globals name) asks

-- ---- without a fault

-- none of the names has a fault
clear_at : {E : Type 0} (f : List ℕ → Option E) (name : List ℕ) (ns : List (List ℕ)) → first_some f ns ≡ None → list_any (eq_by_cmp text_cmp name) ns ≡ true → f name ≡ None
clear_at f name [] clear among = cc
clear_at f name (n ∷ ns) clear among =
    let both = both_None (f n) (first_some f ns) clear in
    ⊎_elim
    (λ same. ap f same ∙ both.0)
    (λ differ. clear_at f name ns both.1 (sym (ap (λ b. b || list_any (eq_by_cmp text_cmp name) ns) differ) ∙ among))
    (one_or_other name n)

module _ (maps : FinMap text_cmp Map) (name k : List ℕ) (g : Global) (s : Symbol) (there : map_in_section maps s.section_index ≡ Some k) where
  abbrev asked : PatchValue
  asked = record { map_name = k; offset = s.address; bytes = g.0 }

  clear_in_map : fault_of (in_map maps name g.0 s (Some k)) ≡ None → patches_in (in_map maps name g.0 s (Some k)) ≡ asked ∷ []
  clear_in_map = elim (nat_le (s.address + length g.0) (length (map_data_of (get maps k)))) as (λ b.
      fault_of (if b then Ok (asked ∷ []) else Err (InvalidGlobalData name s.size (length g.0))) ≡ None
      → patches_in (if b then Ok (asked ∷ []) else Err (InvalidGlobalData name s.size (length g.0))) ≡ asked ∷ []) [
        | true ↦ λ e. refl
        | false ↦ λ e. absurd (let no : ⊥ = cc in no)
      ]

  clear_symbol : fault_of (of_symbol maps name g.0 s) ≡ None → patches_in (of_symbol maps name g.0 s) ≡ asked ∷ []
  clear_symbol = elim (length g.0 == s.size) as (λ b.
      fault_of (if b then in_map maps name g.0 s (map_in_section maps s.section_index) else Err (InvalidGlobalData name s.size (length g.0))) ≡ None
      → patches_in (if b then in_map maps name g.0 s (map_in_section maps s.section_index) else Err (InvalidGlobalData name s.size (length g.0))) ≡ asked ∷ []) [
        | true ↦ λ e. ap (λ z. patches_in (in_map maps name g.0 s z)) there ∙ clear_in_map (ap (λ z. fault_of (in_map maps name g.0 s z)) (sym there) ∙ e)
        | false ↦ λ e. absurd (let no : ⊥ = cc in no)
      ]

  clear_given : (symbols : FinMap nat_cmp Symbol) → symbol_named symbols name ≡ Some s → patch_fault_at symbols maps name (Some g) ≡ None → patches_at symbols maps name (Some g) ≡ asked ∷ []
  unfolding patch_of
  clear_given symbols named clear =
      ap (λ z. patches_in (by_symbol maps name g z)) named
      ∙ clear_symbol (ap (λ z. fault_of (by_symbol maps name g z)) (sym named) ∙ clear)

pub values_are_patches : ValuesArePatches
values_are_patches symbols maps globals name g s k clear given named there =
    let among : list_any (eq_by_cmp text_cmp name) (keys_of (entries globals)) ≡ true = sym (contains_key-keys globals name) ∙ ap is_some given in
    let here : patch_fault_at symbols maps name (get globals name) ≡ None = clear_at (λ n. patch_fault_at symbols maps n (get globals n)) name (keys_of (entries globals)) clear among in
    ap (patches_at symbols maps name) given
    ∙ clear_given maps name k g s there symbols named (ap (patch_fault_at symbols maps name) (sym given) ∙ here)
