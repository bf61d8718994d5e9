-- The entries of a map by their names, values by name after a change, and from what each part of resolution gives to the externs as a whole.
use Rattle.std.proofs.Common.{◌≡◌, ℕ, Bool, true, false, cond, ◌&&◌, T, List, [], ◌∷◌, ◌++◌, map, Option, Some, None, refl, ap, sym, subst, ◌∙◌, ◌+◌, ◌<◌, ◌≤◌, zero, suc, ◌||◌, true≢false, length, arith, drop, get_or, add-one, drop-cons, Ok, Err, inl, inr}
use Rattle.std.proofs.lemmas.Bool.{or_right}
use Rattle.std.proofs.lemmas.List.Elements.{All-tail}
use Rattle.std.proofs.lemmas.Map.Text.{btree_map_updates_str}
use Rattle.std.proofs.lemmas.Slice.Eq.{bytes_eq-Decides}
use Rattle.std.specs.BTreeMap as tree
use Rattle.std.specs.BTreeMap.{BTreeMap}
use Rattle.std.specs.Cmp.{eq_by_cmp_equiv}
use Rattle.std.specs.Cmp.Lexicographic.{slice_cmp}
use Rattle.std.specs.FinMap.{FinMap, empty, entries, entries_sorted, find, get, get-empty, get-entries, get-from_sorted, is_sorted, same_map}
use Rattle.std.specs.FinMap.Entries.{below_all}
use Rattle.std.specs.List.{AllByRecursion, flat_map, cons_option}
use Rattle.std.specs.List.Sorted.{IsStrictlySortedBy}
use Rattle.std.specs.Map.{keys_of}
use Rattle.std.specs.Ordering.{eq_by_cmp, is_eq, is_lt, nat_cmp}
use Rattle.std.specs.Prelude.{All, IsSome, if◌then◌else◌, option_map, not}
use Rattle.std.specs.Str.{bytes_eq}
use Rattle.std.specs.declared.cmp.Ordering.TheVariants.{Less}
use Rattle.ebpf_base.proofs.Mapped.{later_text_stands}
use Rattle.ebpf_base.proofs.Maps.{is_equal, entries_rise}
use Rattle.ebpf_core_candidates.specs.Candidates.{is_hash_marked, name_hash}
use Rattle.ebpf_base.proofs.TextMaps.{text_exact}
use Rattle.ebpf_base.specs.Faults.{first_some, or_else}
use Rattle.ebpf_base.specs.Maps.{last_at, text_cmp, text_total, lent_bytes}
use Rattle.ebpf_btf.specs.TypeInfo.{TypeInfo}
use Rattle.ebpf_ksyms.proofs.Reading.{lines_fault-none}
use Rattle.ebpf_ksyms.proofs.Results.{typed_refusals, typed_written}
use Rattle.ebpf_ksyms.specs.Addresses.{is_one_of, Item, Line, address_of, line_of_item}
use Rattle.ebpf_ksyms.specs.Externs.{NamedExtern, Externs, renew, renewed, IsResolutionFault, IsResolved, kernel_ids_of, is_typed, is_typeless, left_without, name_refused, names_read, names_refused, outcome, resolved_externs, resolved_as, types_refused, wanted_names, with_address, with_outcome, Outcome}
use Rattle.ebpf_ksyms.specs.PrivateContracts.{entry_named, externs_from, only_at, AreRead, KnownAddresses, StopsAt, flattened, known_at, typeless_as, typeless_refused, typed_as, typed_refused}
use Rattle.ebpf_ksyms.specs.declared.error.KsymsError.{KsymsError}
use Rattle.ebpf_model.specs.declared.symbol.ExternDesc.{ExternDesc}
use denote.Ref.{Bor}

-- ---- each entry of a map is found by its name

module _ {V : Type 0} where
  found_below : (e : List ℕ × V) (whole es : List (List ℕ × V)) → AllByRecursion (λ k. text_cmp e.0 k ≡ Less) (keys_of es)
      → AllByRecursion (λ d. find text_cmp d.0 whole ≡ Some d.1) es → AllByRecursion (λ d. find text_cmp d.0 (e ∷ whole) ≡ Some d.1) es
  found_below e whole [] low h = tt
  found_below e whole (f ∷ es) low h =
      let apart : eq_by_cmp text_cmp f.0 e.0 ≡ false = (eq_by_cmp_equiv text_total).symm f.0 e.0 ∙ ap is_eq low.0 in
      (rw apart h.0, found_below e whole es low.1 h.1)

  found : (es : List (List ℕ × V)) → IsStrictlySortedBy text_cmp (keys_of es) → AllByRecursion (λ d. find text_cmp d.0 es ≡ Some d.1) es
  unfolding IsStrictlySortedBy
  found [] up = tt
  found (e ∷ es) up =
      let here : eq_by_cmp text_cmp e.0 e.0 ≡ true = (eq_by_cmp_equiv text_total).refl e.0 in
      (rw here refl, found_below e es es up.0 (found es up.1))

  pub all_found : (m : FinMap text_cmp V) → AllByRecursion (λ e. get m e.0 ≡ Some e.1) (entries m)
  all_found m =
      subst (λ (by_name : List ℕ → Option V). AllByRecursion (λ e. by_name e.0 ≡ Some e.1) (entries m)) (sym (λ i. (λ q. get-entries m q i))) (found (entries m) (entries_rise m))

-- the entries of all names of a map are the map's
pub all_named : (externs : Externs) → flat_map (λ name. entry_named name (get externs name)) (keys_of (entries externs)) ≡ entries externs
all_named externs = by (entries externs) (all_found externs)
  where
    by : (es : List NamedExtern) → AllByRecursion (λ e. get externs e.0 ≡ Some e.1) es → flat_map (λ name. entry_named name (get externs name)) (keys_of es) ≡ es
    by [] h = refl
    by (e ∷ es) h = λ i. entry_named e.0 (h.0 i) ++ by es h.1 i

-- ---- the map of entries in order

last-none : (q : List ℕ) (before : Option ExternDesc) (es : List NamedExtern) → AllByRecursion (λ k. eq_by_cmp text_cmp q k ≡ false) (keys_of es) → last_at text_cmp q before es ≡ before
last-none q before [] h = refl
last-none q before (e ∷ es) h = rw h.0 (last-none q before es h.1)

all_apart : (k : List ℕ) (es : List NamedExtern) → AllByRecursion (λ y. text_cmp k y ≡ Less) (keys_of es) → AllByRecursion (λ y. eq_by_cmp text_cmp k y ≡ false) (keys_of es)
all_apart k [] h = tt
all_apart k (e ∷ es) h = (ap is_eq h.0, all_apart k es h.1)

last-find : (q : List ℕ) (es : List NamedExtern) → IsStrictlySortedBy text_cmp (keys_of es) → last_at text_cmp q None es ≡ find text_cmp q es
unfolding IsStrictlySortedBy
last-find q [] up = refl
last-find q (e ∷ es) up =
    elim (eq_by_cmp text_cmp q e.0) as (λ b. eq_by_cmp text_cmp q e.0 ≡ b → last_at text_cmp q (cond b (Some e.1) None) es ≡ cond b (Some e.1) (find text_cmp q es)) [
      | true ↦ λ tied.
          let same : q ≡ e.0 = text_exact q e.0 (is_equal (text_cmp q e.0) tied) in
          last-none q (Some e.1) es (subst (λ k. AllByRecursion (λ y. eq_by_cmp text_cmp k y ≡ false) (keys_of es)) (sym same) (all_apart e.0 es up.0))
      | false ↦ λ other. last-find q es up.1
    ] refl

get-externs_from : (es : List NamedExtern) (q : List ℕ) → IsStrictlySortedBy text_cmp (keys_of es) → get (externs_from es) q ≡ find text_cmp q es
get-externs_from es q up =
    later_text_stands empty es q
    ∙ ap (λ o. last_at text_cmp q o es) (get-empty text_cmp q)
    ∙ last-find q es up

-- the entries of a map make that map
pub externs_from-entries : (externs : Externs) → externs_from (entries externs) ≡ externs
externs_from-entries externs = same_map text_total text_exact _ _ (λ q. get-externs_from (entries externs) q (entries_rise externs) ∙ sym (get-entries externs q))

-- ---- entries with their values made anew

module _ (f : NamedExtern → ExternDesc) where
  keys-renewed : (es : List NamedExtern) → keys_of (renewed f es) ≡ keys_of es
  keys-renewed [] = refl
  keys-renewed (e ∷ es) = ap (λ ks. e.0 ∷ ks) (keys-renewed es)

  below-renewed : (k : List ℕ) (es : List NamedExtern) → below_all text_cmp k (renewed f es) ≡ below_all text_cmp k es
  below-renewed k [] = refl
  below-renewed k (e ∷ es) = ap (λ b. is_lt (text_cmp k e.0) && b) (below-renewed k es)

  sorted-renewed : (es : List NamedExtern) → is_sorted text_cmp (renewed f es) ≡ is_sorted text_cmp es
  sorted-renewed [] = refl
  sorted-renewed (e ∷ es) = λ i. below-renewed e.0 es i && sorted-renewed es i

  -- they make the map with its values made anew
  pub externs_from-renewed : (externs : Externs) → externs_from (renewed f (entries externs)) ≡ renew f externs
  unfolding renew
  externs_from-renewed externs =
      let up : IsStrictlySortedBy text_cmp (keys_of (renewed f (entries externs))) = subst (IsStrictlySortedBy text_cmp) (sym (keys-renewed (entries externs))) (entries_rise externs) in
      let in_order : T (is_sorted text_cmp (renewed f (entries externs))) = subst T (sym (sorted-renewed (entries externs))) (entries_sorted externs) in
      same_map text_total text_exact _ _ (λ q. get-externs_from (renewed f (entries externs)) q up ∙ sym (get-from_sorted text_cmp (renewed f (entries externs)) q in_order))

-- one after the other, in one
pub renewed-renewed : (g f : NamedExtern → ExternDesc) (es : List NamedExtern) → renewed g (renewed f es) ≡ renewed (λ e. g (e.0, f e)) es
renewed-renewed g f [] = refl
renewed-renewed g f (e ∷ es) = ap (λ fs. (e.0, g (e.0, f e)) ∷ fs) (renewed-renewed g f es)

-- the same at each entry
pub renewed-same : (f g : NamedExtern → ExternDesc) (es : List NamedExtern) → AllByRecursion (λ e. f e ≡ g e) es → renewed f es ≡ renewed g es
renewed-same f g [] h = refl
renewed-same f g (e ∷ es) h = λ i. (e.0, h.0 i) ∷ renewed-same f g es h.1 i

-- ---- values by name after a change

module _ {V : Type 0} where
  -- a value put where one is, and none put where none is
  pub put_there : (b : Bool) (v : V) (o : Option V) → (b ≡ true → IsSome o) → cond b (Some v) o ≡ cond b (option_map (λ _. v) o) o
  put_there true v None h = let e : IsSome {T = V} None = h refl in cc
  put_there true v (Some w) h = refl
  put_there false v o h = refl

  pub not_there : (b : Bool) (v : V) (o : Option V) → (b ≡ true → o ≡ None) → o ≡ cond b (option_map (λ _. v) o) o
  not_there true v None h = refl
  not_there true v (Some w) h = let e : Some w ≡ None = h refl in cc
  not_there false v o h = refl

  pub put-more : (a b : Bool) (x o : Option V) → cond a x (cond b x o) ≡ cond (b || a) x o
  put-more true true x o = refl
  put-more true false x o = refl
  put-more false true x o = refl
  put-more false false x o = refl

  -- the same of what is under a mark
  pub under_mark : (marked b : Bool) (v : V) (o p : Option V) → p ≡ cond b (option_map (λ _. v) o) o → cond marked p None ≡ cond b (option_map (λ _. v) (cond marked o None)) (cond marked o None)
  under_mark true b v o p e = e
  under_mark false true v o p e = refl
  under_mark false false v o p e = refl

-- equal by their bytes
pub same_bytes : (a b : List ℕ) → bytes_eq a b ≡ true → a ≡ b
same_bytes a b e = (bytes_eq-Decides a b).0 e

module _ (marks : List Bool) where
  abbrev pub AreMarked : List (Bor (List ℕ)) → Type 0
  AreMarked names = All (λ name. is_hash_marked marks (name_hash name.now) ≡ true) names

  -- what is one of some marked names is marked
  one_is_marked : (names : List (Bor (List ℕ))) → AreMarked names → (q : List ℕ) → is_one_of (lent_bytes names) q ≡ true → is_hash_marked marks (name_hash q) ≡ true
  one_is_marked [] all q e = cc
  one_is_marked (n ∷ names) all q e = by_test (bytes_eq n.now q) refl (one_is_marked names (All-tail (λ name. is_hash_marked marks (name_hash name.now) ≡ true) n names all) q) e
    where
      by_test : (b : Bool) → bytes_eq n.now q ≡ b → (is_one_of (lent_bytes names) q ≡ true → is_hash_marked marks (name_hash q) ≡ true) → (b || is_one_of (lent_bytes names) q) ≡ true → is_hash_marked marks (name_hash q) ≡ true
      by_test true same rest one = subst (λ text. is_hash_marked marks (name_hash text) ≡ true) (same_bytes n.now q same) (all 0 n (omega arith))
      by_test false other rest one = rest one

  -- so that a value at these names alone is one under their marks
  pub marked_only : {V : Type 0} (names : List (Bor (List ℕ))) (value : V) (o : Option V) → AreMarked names → (q : List ℕ) → o ≡ only_at (lent_bytes names) (λ _. value) q
      → cond (is_hash_marked marks (name_hash q)) o None ≡ only_at (lent_bytes names) (λ _. value) q
  marked_only names value o all q is = by_mark (is_hash_marked marks (name_hash q)) refl
    where
      without : (b : Bool) → is_hash_marked marks (name_hash q) ≡ false → is_one_of (lent_bytes names) q ≡ b → None ≡ cond b (Some value) None
      without true out one = absurd (true≢false (sym (one_is_marked names all q one) ∙ out))
      without false out one = refl

      by_mark : (b : Bool) → is_hash_marked marks (name_hash q) ≡ b → cond b o None ≡ only_at (lent_bytes names) (λ _. value) q
      by_mark true marked = is
      by_mark false out = without (is_one_of (lent_bytes names) q) out refl

module _ {V : Type 0} (names : List (Bor (List ℕ))) (i : ℕ) (d : Bor (List ℕ)) (value : V) (old new : BTreeMap (Bor (List ℕ)) V) where
  -- one more of some names is put
  pub named-step : i < length names → tree.UpdatesBy (λ x y. slice_cmp nat_cmp x.now y.now) (λ k. slice_cmp nat_cmp (get_or names i d).now k.now) old new (Some value) → (q : List ℕ) →
      (if is_one_of (lent_bytes (drop (i + 1) names)) q then Some value else tree.get_by (λ k. text_cmp q k.now) new)
      ≡ (if is_one_of (lent_bytes (drop i names)) q then Some value else tree.get_by (λ k. text_cmp q k.now) old)
  named-step inside updates q =
      let name : Bor (List ℕ) = get_or names i d in
      let a : Bool = is_one_of (lent_bytes (drop (i + 1) names)) q in
      ap (λ o. cond a (Some value) o) (btree_map_updates_str name.now old new (Some value) updates q)
      ∙ put-more a (bytes_eq name.now q) (Some value) (tree.get_by (λ k. text_cmp q k.now) old)
      ∙ ap (λ ns. cond (is_one_of (lent_bytes ns) q) (Some value) (tree.get_by (λ k. text_cmp q k.now) old)) (sym (drop-cons names i d inside ∙ ap (λ n. name ∷ drop n names) (sym (add-one i))))

none_left : (xs : List (Bor (List ℕ))) (n : ℕ) → length xs ≤ n → drop n xs ≡ []
none_left [] zero h = refl
none_left [] (suc n) h = refl
none_left (x ∷ xs) zero h = absurd (omega arith)
none_left (x ∷ xs) (suc n) h = none_left xs n (omega arith)

module _ {V : Type 0} (names : List (Bor (List ℕ))) (i : ℕ) (value : V) (known : BTreeMap (Bor (List ℕ)) V) where
  -- no name is left
  pub named-end : length names ≤ i → (q : List ℕ) →
      tree.get_by (λ k. text_cmp q k.now) known ≡ (if is_one_of (lent_bytes (drop i names)) q then Some value else tree.get_by (λ k. text_cmp q k.now) known)
  named-end over q = ap (λ ns. cond (is_one_of (lent_bytes ns) q) (Some value) (tree.get_by (λ k. text_cmp q k.now) known)) (sym (none_left names i over))

-- ---- from what each part of resolution gives to the externs as a whole

-- ---- typed externs have no address to seek

not_both : (a b : Bool) → (a && b) ≡ true → (a && not b) ≡ false
not_both true true e = refl
not_both true false e = cc
not_both false b e = refl

typed_stays : (d : ExternDesc) (o : Outcome) → is_typed d ≡ true → is_typeless (with_outcome d o) ≡ false
typed_stays d (Ok (Some id)) e = refl
typed_stays d (Ok None) e = not_both (not d.is_resolved) d.is_typed e
typed_stays d (Err f) e = not_both (not d.is_resolved) d.is_typed e

-- ---- a typeless extern's name is among the wanted ones

pub IsWanted : List (List ℕ) → NamedExtern → Type 0
IsWanted names e = is_typeless e.1 ≡ true → is_one_of names e.0 ≡ true

wanted_more : (n : List ℕ) (names : List (List ℕ)) (es : List NamedExtern) → AllByRecursion (IsWanted names) es → AllByRecursion (IsWanted (n ∷ names)) es
unfolding IsWanted
wanted_more n names [] h = tt
wanted_more n names (e ∷ es) h = (λ t. ap (λ b. bytes_eq n e.0 || b) (h.0 t) ∙ or_right (bytes_eq n e.0) true refl, wanted_more n names es h.1)

is_same : (n : List ℕ) → bytes_eq n n ≡ true
is_same n = (bytes_eq-Decides n n).1 refl

pub all_wanted : (es : List NamedExtern) → AllByRecursion (IsWanted (wanted_names es)) es
unfolding IsWanted
all_wanted [] = tt
all_wanted (e ∷ es) =
    elim (is_typeless e.1) as (λ b. (b ≡ true → is_one_of (cons_option (cond b (Some e.0) None) (wanted_names es)) e.0 ≡ true) × AllByRecursion (λ f. is_typeless f.1 ≡ true → is_one_of (cons_option (cond b (Some e.0) None) (wanted_names es)) f.0 ≡ true) es) [
      | true ↦ (λ t. ap (λ b. b || is_one_of (wanted_names es) e.0) (is_same e.0), wanted_more e.0 (wanted_names es) es (all_wanted es))
      | false ↦ (λ t. cc, all_wanted es)
    ]

-- ---- each entry

module _ (local : TypeInfo) (kernel : Option TypeInfo) (lines : List Line) (names : List (List ℕ)) (known : KnownAddresses) (tells : (q : List ℕ) → known q ≡ only_at names (λ name. address_of name lines) q) where
  pub address_known : (e : NamedExtern) → IsWanted names e → is_typeless e.1 ≡ true → known_at known e.0 ≡ address_of e.0 lines
  unfolding IsWanted
  address_known e h t = ap flattened (tells e.0) ∙ ap (λ b. flattened (cond b (Some (address_of e.0 lines)) None)) (h t)

  typed : NamedExtern → ExternDesc
  typed e = typed_as (kernel_ids_of kernel) local kernel e

  stands : (e : NamedExtern) (o : Outcome) (b : Bool) → is_typed e.1 ≡ b → IsWanted names e → typeless_as (known_at known) (e.0, cond b (with_outcome e.1 o) e.1) ≡ cond b (with_outcome e.1 o) (cond (is_typeless e.1) (with_address e.1 (address_of e.0 lines)) e.1)
  stands e o true t h = rw (typed_stays e.1 o t) refl
  stands e o false t h =
      elim (is_typeless e.1) as (λ b. is_typeless e.1 ≡ b → cond b (with_address e.1 (known_at known e.0)) e.1 ≡ cond b (with_address e.1 (address_of e.0 lines)) e.1) [
        | true ↦ λ s. ap (with_address e.1) (address_known e h s)
        | false ↦ λ s. refl
      ] refl

  refused : (e : NamedExtern) (o : Outcome) (b : Bool) → is_typed e.1 ≡ b → IsWanted names e → typeless_refused (known_at known) (e.0, cond b (with_outcome e.1 o) e.1) ≡ name_refused lines e
  refused e o true t h =
      let none : is_typeless e.1 ≡ false = not_both (not e.1.is_resolved) e.1.is_typed t in
      rw (typed_stays e.1 o t, none) refl
  refused e o false t h =
      elim (is_typeless e.1) as (λ b. is_typeless e.1 ≡ b → cond b (left_without (known_at known e.0) e) None ≡ cond b (left_without (address_of e.0 lines) e) None) [
        | true ↦ λ s. ap (λ a. left_without a e) (address_known e h s)
        | false ↦ λ s. refl
      ] refl

  all_stand : (es : List NamedExtern) → AllByRecursion (IsWanted names) es → AllByRecursion (λ e. typeless_as (known_at known) (e.0, typed e) ≡ resolved_as local kernel lines e) es
  unfolding typed
  all_stand [] h = tt
  all_stand (e ∷ es) h = (
    ap (λ d. typeless_as (known_at known) (e.0, d)) (typed_written (kernel_ids_of kernel) local kernel e)
        ∙ stands e (outcome local kernel e) (is_typed e.1) refl h.0,
    all_stand es h.1,
  )

  first_refused : (es : List NamedExtern) → AllByRecursion (IsWanted names) es → first_some (typeless_refused (known_at known)) (renewed typed es) ≡ first_some (name_refused lines) es
  unfolding typed
  first_refused [] h = refl
  first_refused (e ∷ es) h =
      let one : typeless_refused (known_at known) (e.0, typed_as (kernel_ids_of kernel) local kernel e) ≡ name_refused lines e =
      ap (λ d. typeless_refused (known_at known) (e.0, d)) (typed_written (kernel_ids_of kernel) local kernel e)
      ∙ refused e (outcome local kernel e) (is_typed e.1) refl h.0 in
      λ i. or_else (one i) (first_refused es h.1 i)

-- ---- the whole

module _ {S : Type 0} (steps : S → Option Item → S → Type 0) (source : S) (kernel : Option TypeInfo) (externs : Externs) where
  -- without types of the object all stays
  pub stays : IsResolved steps source None kernel externs (externs_from (entries externs))
  unfolding names_read types_refused names_refused resolved_externs
  stays = record { items = []; counted = refl; types = refl; read = lines_fault-none _; names = refl; stands = externs_from-entries externs }

  module _ (local : TypeInfo) where
    typed_all : List NamedExtern
    typed_all = renewed (typed_as (kernel_ids_of kernel) local kernel) (entries externs)

    pub at_type : (e : KsymsError) → first_some (typed_refused (kernel_ids_of kernel) local kernel) (entries externs) ≡ Some e → IsResolutionFault steps source (Some local) kernel externs e
    unfolding types_refused
    at_type e h = inl (sym (typed_refusals (kernel_ids_of kernel) local kernel (entries externs)) ∙ h)

    pub at_line : (e : KsymsError) → first_some (typed_refused (kernel_ids_of kernel) local kernel) (entries externs) ≡ None → StopsAt steps source (wanted_names (entries externs)) e → IsResolutionFault steps source (Some local) kernel externs e
    unfolding types_refused names_read
    at_line e types h = inr (inl (record { items = h.items; item = h.item; rest = h.rest; wanted = h.wanted; came = h.came; types = sym (typed_refusals (kernel_ids_of kernel) local kernel (entries externs)) ∙ types; before = h.before; refused = h.refused }))

    pub at_name : (e : KsymsError) (known : KnownAddresses) → first_some (typed_refused (kernel_ids_of kernel) local kernel) (entries externs) ≡ None → AreRead steps source (wanted_names (entries externs)) known → first_some (typeless_refused (known_at known)) (renewed (typed_as (kernel_ids_of kernel) local kernel) (entries externs)) ≡ Some e → IsResolutionFault steps source (Some local) kernel externs e
    unfolding types_refused names_read names_refused typed
    at_name e known types h left = inr (inr (record {
      items = h.items;
      counted = h.counted;
      types = sym (typed_refusals (kernel_ids_of kernel) local kernel (entries externs)) ∙ types;
      read = h.read;
      refused = sym (first_refused local kernel (map line_of_item h.items) (wanted_names (entries externs)) known h.addresses (entries externs) (all_wanted (entries externs))) ∙ left;
    }))

    pub is_resolved : (known : KnownAddresses) (after : List NamedExtern) → first_some (typed_refused (kernel_ids_of kernel) local kernel) (entries externs) ≡ None → AreRead steps source (wanted_names (entries externs)) known → first_some (typeless_refused (known_at known)) (renewed (typed_as (kernel_ids_of kernel) local kernel) (entries externs)) ≡ None → after ≡ renewed (typeless_as (known_at known)) (renewed (typed_as (kernel_ids_of kernel) local kernel) (entries externs)) → IsResolved steps source (Some local) kernel externs (externs_from after)
    unfolding types_refused names_read names_refused resolved_externs typed
    is_resolved known after types h left is = record {
      items = h.items;
      counted = h.counted;
      types = sym (typed_refusals (kernel_ids_of kernel) local kernel (entries externs)) ∙ types;
      read = h.read;
      names = sym (first_refused local kernel (map line_of_item h.items) (wanted_names (entries externs)) known h.addresses (entries externs) (all_wanted (entries externs))) ∙ left;
      stands =
          ap externs_from (is
          ∙ renewed-renewed (typeless_as (known_at known)) (typed_as (kernel_ids_of kernel) local kernel) (entries externs)
          ∙ renewed-same (λ e. typeless_as (known_at known) (e.0, typed_as (kernel_ids_of kernel) local kernel e)) (resolved_as local kernel (map line_of_item h.items)) (entries externs)
          (all_stand local kernel (map line_of_item h.items) (wanted_names (entries externs)) known h.addresses (entries externs) (all_wanted (entries externs))))
          ∙ externs_from-renewed (resolved_as local kernel (map line_of_item h.items)) externs;
    }
