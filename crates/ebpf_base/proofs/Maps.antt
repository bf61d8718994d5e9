-- What a finite map made of a map's entries answers, what a change of the entries makes of it, and its keys in order.
use Rattle.std.proofs.Common.{◌≡◌, nat_eq, ℕ, false, cond, List, [], ◌∷◌, length, Option, Some, None, IsSome, refl, sym, ap, subst, ◌∙◌, ◌↔◌, arith, true, nat_le, ◌<◌, ◌+◌, Bool, ◌&&◌, T, map}
use Rattle.std.specs.declared.cmp.Ordering.{Ordering}
use Rattle.std.specs.Option.{OnSome, option_copied_mut, is_some}
use Rattle.std.specs.Ordering.{nat_cmp, eq_by_cmp, is_eq, is_lt, ordering_reverse}
use Rattle.std.specs.Cmp.{IsTotalOrder, eq_by_cmp_equiv, nat_cmp_total}
use Rattle.std.specs.List.{IsDistinct, AllByRecursion, list_any}
use Rattle.std.specs.List.Sorted.{IsStrictlySortedBy, IsSorted, IsPermutation}
use Rattle.std.specs.Map.{lookup, keys_of}
use Rattle.std.specs.BTreeMap.{is_at}
use Rattle.std.specs.FinMap.{IsAntisymmetric, from_entries, get, insert, remove, entries, empty, len, find, put, get-empty, get-from_entries, get-insert, get-remove, entries-insert, same_map, len-entries, len-empty, len-insert, nat_cmp-IsAntisymmetric, FinMap, entries_sorted, is_sorted, contains_key-keys}
use Rattle.std.proofs.lemmas.Map.Lookups.{exact_pairs, exact_unsigned}
use Rattle.std.proofs.lemmas.Bool.Decides.{nat_tests}
use denote.MutBor.{MutBor}
use Rattle.std.specs.declared.cmp.Ordering.TheVariants.{Less, Equal, Greater}
use Rattle.std.specs.declared.ops.Bound.TheVariants.{Included, Unbounded}
use Rattle.std.specs.BTreeMap.Range.{entries_between, range_contains}
use Rattle.std.specs.FinMap.Entries.{below_all}
use Rattle.std.proofs.lemmas.List.{get_or-map, length-map}
use Rattle.std.proofs.lemmas.List.Sorted.{list_any-IsPermutation}
use Rattle.std.proofs.lemmas.Map.Keys.{sorted_from_all_adjacent, apart_from_distinct, IsDistinct-IsPermutation}
use Rattle.std.proofs.lemmas.Map.Made.{is_some-lookup}
use Rattle.ebpf_base.specs.Maps.{key_cmp, key_total, entries_from}
use Rattle.ebpf_base.proofs.Lists.{filter-same}

pub key_exact : IsAntisymmetric key_cmp
key_exact = exact_pairs nat_cmp nat_cmp exact_unsigned exact_unsigned

-- what is owed only where a value was lent
pub where_some : {V : Type 0} {P : Type 0} (o : Option (MutBor V)) (x : Option V) → option_copied_mut o ≡ x → (IsSome x → P) → OnSome o P
where_some None x e k = tt
where_some (Some r) x e k = k (subst (λ y. IsSome y) e refl)

no_length : {A : Type 0} (es : List A) → length es ≡ 0 → es ≡ []
no_length [] e = refl
no_length (x ∷ es) e = absurd (omega arith)

module _ {K : Type 0} (R : K → K → Ordering) (X : Type 0) where
  pub entries-empty : entries (empty {X = X} {R = R}) ≡ []
  entries-empty = no_length _ (sym (len-entries _) ∙ len-empty R X)

module _ {K X : Type 0} (R : K → K → Ordering) where
  find-lookup : (q : K) (es : List (K × X)) → find R q es ≡ lookup (is_at (R q)) es
  find-lookup q [] = refl
  find-lookup q (e ∷ es) = ap (cond (is_at (R q) e.0) (Some e.1)) (find-lookup q es)

module _ {K X : Type 0} {R : K → K → Ordering} (o : IsTotalOrder R) where
  -- the map answers as the entries do
  pub get-view : (es : List (K × X)) (q : K) → get (from_entries {R = R} es) q ≡ lookup (is_at (R q)) es
  get-view es q = get-from_entries o es q ∙ find-lookup R q es

  put_first : (e : K × X) (es : List (K × X)) → IsStrictlySortedBy R (keys_of (e ∷ es)) → put R e.0 e.1 es ≡ e ∷ es
  unfolding IsStrictlySortedBy
  put_first e [] h = refl
  put_first e (f ∷ es) h = rw h.0.0 refl

  -- entries in order are those of the map
  pub entries-view : (es : List (K × X)) → IsStrictlySortedBy R (keys_of es) → entries (from_entries {R = R} es) ≡ es
  unfolding IsStrictlySortedBy
  entries-view [] h = entries-empty R X
  entries-view (e ∷ es) h = entries-insert o _ e.0 e.1 ∙ ap (put R e.0 e.1) (entries-view es h.1) ∙ put_first e es h

  pub len-view : (es : List (K × X)) → IsStrictlySortedBy R (keys_of es) → len (from_entries {R = R} es) ≡ length es
  len-view es h = len-entries _ ∙ ap length (entries-view es h)

  -- only no entries make the empty map
  pub empty-view : (es : List (K × X)) → (length es ≡ 0) ↔ (from_entries {R = R} es ≡ empty)
  empty-view [] = (λ _. refl, λ _. refl)
  empty-view (e ∷ es) = (
    λ h. absurd (omega arith),
    λ h.
        let found : get (from_entries {R = R} (e ∷ es)) e.0 ≡ Some e.1 = get-insert o (from_entries es) e.0 e.1 e.0 ∙ rw ((eq_by_cmp_equiv o).refl e.0) refl in
        let none : get (from_entries {R = R} (e ∷ es)) e.0 ≡ None = ap (λ m. get m e.0) h ∙ get-empty R e.0 in
        cc,
  )

  -- entries that answer as others do but at one key make the map with that key set
  pub one_set : IsAntisymmetric R → (es fs : List (K × X)) (k : K) (v : X) → ((q : K) → lookup (is_at (R q)) fs ≡ cond (is_at (R k) q) (Some v) (lookup (is_at (R q)) es)) → from_entries {R = R} fs ≡ insert (from_entries es) k v
  one_set exact es fs k v h = same_map o exact _ _ (λ q.
      get-view fs q ∙ h q ∙ ap (λ b. cond b (Some v) (lookup (is_at (R q)) es)) ((eq_by_cmp_equiv o).symm k q)
      ∙ sym (get-insert o (from_entries es) k v q ∙ ap (cond (eq_by_cmp R q k) (Some v)) (get-view es q)))

  -- with that key taken out
  pub one_removed : IsAntisymmetric R → (es fs : List (K × X)) (k : K) → ((q : K) → lookup (is_at (R q)) fs ≡ cond (is_at (R k) q) None (lookup (is_at (R q)) es)) → from_entries {R = R} fs ≡ remove (from_entries es) k
  one_removed exact es fs k h = same_map o exact _ _ (λ q.
      get-view fs q ∙ h q ∙ ap (λ b. cond b None (lookup (is_at (R q)) es)) ((eq_by_cmp_equiv o).symm k q)
      ∙ sym (get-remove o (from_entries es) k q ∙ ap (cond (eq_by_cmp R q k) None) (get-view es q)))

  -- keys that differ: as many entries as the map has
  pub len_distinct : (es : List (K × X)) → IsDistinct (eq_by_cmp R) (keys_of es) → len (from_entries {R = R} es) ≡ length es
  unfolding IsDistinct
  len_distinct [] h = len-empty R X
  len_distinct (e ∷ es) h =
      let none : get (from_entries {R = R} es) e.0 ≡ None = get-view es e.0 ∙ no_entry es h.0 in
      len-insert o (from_entries es) e.0 e.1 ∙ rw none (omega (arith, len_distinct es h.1))
    where
      no_entry : (fs : List (K × X)) → AllByRecursion (λ y. eq_by_cmp R e.0 y ≡ false) (keys_of fs) → lookup (is_at (R e.0)) fs ≡ None
      no_entry [] g = refl
      no_entry (f ∷ fs) g = rw g.0 (no_entry fs g.1)

-- ---- maps that hash numbers

nat_eq_agrees : (x y : ℕ) → eq_by_cmp nat_cmp x y ≡ nat_eq x y
nat_eq_agrees x y = grind (arith, nat_tests)

module _ {X : Type 0} where
  lookup-number : (q : ℕ) (es : List (ℕ × X)) → lookup (is_at (nat_cmp q)) es ≡ lookup (nat_eq q) es
  lookup-number q [] = refl
  lookup-number q (e ∷ es) = rw (nat_eq_agrees q e.0, lookup-number q es) refl

  pub get-number : (es : List (ℕ × X)) (q : ℕ) → get (from_entries {R = nat_cmp} es) q ≡ lookup (nat_eq q) es
  get-number es q = get-view nat_cmp_total es q ∙ lookup-number q es

  changed-number : (es fs : List (ℕ × X)) (k : ℕ) (w : Option X) → ((q : ℕ) → lookup (nat_eq q) fs ≡ cond (nat_eq k q) w (lookup (nat_eq q) es)) → (q : ℕ) → lookup (is_at (nat_cmp q)) fs ≡ cond (is_at (nat_cmp k) q) w (lookup (is_at (nat_cmp q)) es)
  changed-number es fs k w h q =
      lookup-number q fs ∙ h q ∙ ap (λ b. cond b w (lookup (nat_eq q) es)) (sym (nat_eq_agrees k q)) ∙ ap (cond (is_at (nat_cmp k) q) w) (sym (lookup-number q es))

  pub one_set_number : (es fs : List (ℕ × X)) (k : ℕ) (v : X) → ((q : ℕ) → lookup (nat_eq q) fs ≡ cond (nat_eq k q) (Some v) (lookup (nat_eq q) es)) → from_entries {R = nat_cmp} fs ≡ insert (from_entries es) k v
  one_set_number es fs k v h = one_set nat_cmp_total nat_cmp-IsAntisymmetric es fs k v (changed-number es fs k (Some v) h)

  pub one_removed_number : (es fs : List (ℕ × X)) (k : ℕ) → ((q : ℕ) → lookup (nat_eq q) fs ≡ cond (nat_eq k q) None (lookup (nat_eq q) es)) → from_entries {R = nat_cmp} fs ≡ remove (from_entries es) k
  one_removed_number es fs k h = one_removed nat_cmp_total nat_cmp-IsAntisymmetric es fs k (changed-number es fs k None h)

  pub distinct_numbers : (es : List (ℕ × X)) → IsDistinct nat_eq (keys_of es) → IsDistinct (eq_by_cmp nat_cmp) (keys_of es)
  unfolding IsDistinct
  distinct_numbers [] h = tt
  distinct_numbers (e ∷ es) h = (apart es h.0, distinct_numbers es h.1)
    where
      apart : (fs : List (ℕ × X)) → AllByRecursion (λ y. nat_eq e.0 y ≡ false) (keys_of fs) → AllByRecursion (λ y. eq_by_cmp nat_cmp e.0 y ≡ false) (keys_of fs)
      apart [] g = tt
      apart (f ∷ fs) g = (nat_eq_agrees e.0 f.0 ∙ g.0, apart fs g.1)

  pub len-number : (es : List (ℕ × X)) → IsDistinct nat_eq (keys_of es) → len (from_entries {R = nat_cmp} es) ≡ length es
  len-number es h = len_distinct nat_cmp_total _ (distinct_numbers es h)

-- an answer that says equal is Equal
pub is_equal : (r : Ordering) → is_eq r ≡ true → r ≡ Equal
is_equal Less h = cc
is_equal Equal h = refl
is_equal Greater h = cc

-- ---- the entries from a key on are those that a test takes

from_on : (from q : ℕ) → range_contains nat_cmp (Included from) Unbounded q ≡ nat_le from q
from_on from q = grind (arith, nat_tests)

pub from-view : {X : Type 0} (from : ℕ) (es : List (ℕ × X)) → IsStrictlySortedBy nat_cmp (keys_of es) → entries_between nat_cmp (Included from) Unbounded es ≡ entries_from from (entries (from_entries {R = nat_cmp} es))
from-view from es up = filter-same _ _ es (λ e. from_on from e.0) ∙ ap (entries_from from) (sym (entries-view nat_cmp_total es up))

-- ---- the lemmas by which the maps of this crate are finite maps

-- in the order of numbers
pub ruleset numbered = (get-view, one_set, one_removed, len-view, empty-view, entries-view, nat_cmp_total, nat_cmp-IsAntisymmetric)

-- in the order of pairs of numbers
pub ruleset keyed = (get-view, len-view, empty-view, entries-view, key_total)

-- hashed by numbers
pub ruleset hashed = (get-number, one_set_number, one_removed_number, len-number, empty-view, nat_cmp_total)

-- ---- keys in order: those of a finite map, and a sorted list of the same keys

both_hold : (a b : Bool) → T (a && b) → T a × T b
both_hold true b p = (tt, p)
both_hold false b p = absurd p

below : (r : Ordering) → T (is_lt r) → r ≡ Less
below Less p = refl
below Equal p = absurd p
below Greater p = absurd p

-- not above and not equal
is_less : (r s : Ordering) → s ≡ ordering_reverse r → is_lt s ≡ false → is_eq r ≡ false → r ≡ Less
is_less Less s e a b = refl
is_less Equal s e a b = cc
is_less Greater s e a b = absurd (subst (λ x. T x) (ap is_lt (sym e) ∙ a) tt)

module _ {K X : Type 0} (R : K → K → Ordering) where
  all_below : (k : K) (es : List (K × X)) → T (below_all R k es) → AllByRecursion (λ y. R k y ≡ Less) (keys_of es)
  all_below k [] h = tt
  all_below k (e ∷ es) h =
      let p = both_hold (is_lt (R k e.0)) (below_all R k es) h in
      (below (R k e.0) p.0, all_below k es p.1)

  rising_keys : (es : List (K × X)) → T (is_sorted R es) → IsStrictlySortedBy R (keys_of es)
  unfolding IsStrictlySortedBy
  rising_keys [] h = tt
  rising_keys (e ∷ es) h =
      let p = both_hold (below_all R e.0 es) (is_sorted R es) h in
      (all_below e.0 es p.0, rising_keys es p.1)

-- the keys of a map's entries rise
pub entries_rise : {K X : Type 0} {R : K → K → Ordering} (m : FinMap R X) → IsStrictlySortedBy R (keys_of (entries m))
entries_rise {R = R} m = rising_keys R (entries m) (entries_sorted m)

-- items in the order of a key of theirs: the keys are in order
pub sorted_map : {A K : Type 0} (R : K → K → Ordering) (f : A → K) (xs : List A) → IsSorted (λ x y. R (f x) (f y)) xs → IsSorted R (map f xs)
sorted_map R f [] up = λ k d low inside. absurd (omega arith)
sorted_map R f (x ∷ xs) up = λ k d low inside.
    let short : k + 1 < length (x ∷ xs) = omega (arith, length-map (x ∷ xs) f) in
    rw (get_or-map f (x ∷ xs) (k + 1) x d short, get_or-map f (x ∷ xs) k x d (omega arith)) (up k x low short)

module _ {K : Type 0} {R : K → K → Ordering} (o : IsTotalOrder R) where
  -- keys in order, of which no two are equal, rise
  pub strictly_sorted : (ks : List K) → IsSorted R ks → IsDistinct (eq_by_cmp R) ks → IsStrictlySortedBy R ks
  unfolding IsStrictlySortedBy
  strictly_sorted [] up apart = tt
  strictly_sorted (x ∷ ks) up apart = sorted_from_all_adjacent o (x ∷ ks) x (λ k inside.
      is_less _ _ (o.antisymm _ _) (up k x (omega arith) inside) (apart_from_distinct (eq_by_cmp R) (x ∷ ks) k (k + 1) x apart (omega arith) inside))

  units : List K → List (K × Unit {0})
  units ks = map (λ k. (k, tt)) ks

  keys_of-units : (ks : List K) → keys_of (units ks) ≡ ks
  unfolding units
  keys_of-units [] = refl
  keys_of-units (k ∷ ks) = λ i. k ∷ keys_of-units ks i

  same_unit : (a b : Option (Unit {0})) → is_some a ≡ is_some b → a ≡ b
  same_unit None None e = refl
  same_unit None (Some y) e = cc
  same_unit (Some x) None e = cc
  same_unit (Some x) (Some y) e = refl

  has-units : (ks : List K) (q : K) → is_some (get (from_entries {R = R} (units ks)) q) ≡ list_any (eq_by_cmp R q) ks
  has-units ks q = ap is_some (get-view o (units ks) q) ∙ is_some-lookup (is_at (R q)) (units ks) ∙ ap (list_any (eq_by_cmp R q)) (keys_of-units ks)

  -- rising keys are known by which keys are among them
  pub same_keys : IsAntisymmetric R → (ks ls : List K) → IsStrictlySortedBy R ks → IsStrictlySortedBy R ls → ((q : K) → list_any (eq_by_cmp R q) ks ≡ list_any (eq_by_cmp R q) ls) → ks ≡ ls
  same_keys exact ks ls up vp h =
      let same : from_entries {R = R} (units ks) ≡ from_entries (units ls) = same_map o exact _ _ (λ q. same_unit _ _ (has-units ks q ∙ h q ∙ sym (has-units ls q))) in
      let left : entries (from_entries {R = R} (units ks)) ≡ units ks = entries-view o (units ks) (rw keys_of-units up) in
      let right : entries (from_entries {R = R} (units ls)) ≡ units ls = entries-view o (units ls) (rw keys_of-units vp) in
      sym (keys_of-units ks) ∙ ap keys_of (sym left ∙ ap entries same ∙ right) ∙ keys_of-units ls

  module _ {X : Type 0} where
    keys-view : (es : List (K × X)) (q : K) → list_any (eq_by_cmp R q) (keys_of (entries (from_entries {R = R} es))) ≡ list_any (eq_by_cmp R q) (keys_of es)
    keys-view es q = sym (contains_key-keys (from_entries {R = R} es) q) ∙ ap is_some (get-view o es q) ∙ is_some-lookup (is_at (R q)) es

    -- the keys of some entries, sorted, are those of the map
    pub sorted_keys : IsAntisymmetric R → (es : List (K × X)) (ks : List K) → IsDistinct (eq_by_cmp R) (keys_of es) → IsPermutation (keys_of es) ks → IsSorted R ks → ks ≡ keys_of (entries (from_entries {R = R} es))
    sorted_keys exact es ks apart moved up =
        let flips : (x y : K) → eq_by_cmp R x y ≡ eq_by_cmp R y x = λ x y. (eq_by_cmp_equiv o).symm x y in
        same_keys exact ks _ (strictly_sorted ks up (IsDistinct-IsPermutation (eq_by_cmp R) flips _ _ moved apart)) (entries_rise _)
        (λ q. sym (list_any-IsPermutation (eq_by_cmp R q) _ _ moved) ∙ sym (keys-view es q))
