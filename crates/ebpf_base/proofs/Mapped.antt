-- Entries put into a map, and maps of which each value is made anew.
use Rattle.std.proofs.Common.{◌≡◌, List, [], ◌∷◌, ◌++◌, refl, ap, ◌∙◌, ◌&&◌, T, Bool, cond, true, false, Option, Some, None, sym, subst}
use Rattle.std.specs.declared.cmp.Ordering.{Ordering}
use Rattle.std.specs.FinMap.{FinMap, insert, get-insert, IsAntisymmetric, from_entries, empty, entries, entries_sorted, entries-from_sorted, get, get-entries, find, is_sorted, same_map, same_entries_map, get-from_entries, get-empty}
use Rattle.std.specs.Cmp.{IsTotalOrder, nat_cmp_total}
use Rattle.std.specs.Ordering.{nat_cmp, is_lt, eq_by_cmp}
use Rattle.std.specs.List.{flat_map, IsDistinct, AllByRecursion}
use Rattle.std.specs.Option.{option_map, option_or}
use Rattle.std.specs.Map.{keys_of}
use Rattle.std.specs.FinMap.Entries.{below_all}
use Rattle.std.proofs.lemmas.Map.Keys.{IsDistinct-from_sorted}
use Rattle.ebpf_base.specs.Maps.{text_cmp, text_total, key_cmp, key_total, put_all, last_at, LaterStands, mapped_entries, map_values}
use Rattle.ebpf_base.proofs.Maps.{is_equal, entries_rise}

module _ {K X : Type 0} {R : K → K → Ordering} where
  -- the entries of two lists, one after the other
  pub put_all-append : (m : FinMap R X) (es fs : List (K × X)) → put_all m (es ++ fs) ≡ put_all (put_all m es) fs
  put_all-append m [] fs = refl
  put_all-append m (e ∷ es) fs = put_all-append (insert m e.0 e.1) es fs

  -- the entries of the first item, then those of the others
  pub put_all-flat_map : {A : Type 0} (f : A → List (K × X)) (m : FinMap R X) (x : A) (xs : List A) → put_all m (flat_map f (x ∷ xs)) ≡ put_all (put_all m (f x)) (flat_map f xs)
  put_all-flat_map f m x xs = put_all-append m (f x) (flat_map f xs)

-- at each total order of the keys
pub later_stands : {K X : Type 0} {R : K → K → Ordering} → IsTotalOrder R → LaterStands R X
later_stands o m [] q = refl
later_stands {R = R} o m (e ∷ es) q =
    later_stands o (insert m e.0 e.1) es q
    ∙ ap (λ v. last_at R q v es) (get-insert o m e.0 e.1 q)

pub later_text_stands : {X : Type 0} → LaterStands text_cmp X
later_text_stands = later_stands text_total

pub later_number_stands : {X : Type 0} → LaterStands nat_cmp X
later_number_stands = later_stands nat_cmp_total

pub later_key_stands : {X : Type 0} → LaterStands key_cmp X
later_key_stands = later_stands key_total

-- ---- maps of which each value is made anew: their entries, what they answer, and the laws of `map`

module _ {K V W : Type 0} (R : K → K → Ordering) (f : V → W) where
  below_all-mapped_entries : (k : K) (es : List (K × V)) → below_all R k (mapped_entries f es) ≡ below_all R k es
  below_all-mapped_entries k [] = refl
  below_all-mapped_entries k (e ∷ es) = ap (λ b. is_lt (R k e.0) && b) (below_all-mapped_entries k es)

  is_sorted-mapped_entries : (es : List (K × V)) → is_sorted R (mapped_entries f es) ≡ is_sorted R es
  is_sorted-mapped_entries [] = refl
  is_sorted-mapped_entries (e ∷ es) = λ i. below_all-mapped_entries e.0 es i && is_sorted-mapped_entries es i

  find-mapped_entries : (q : K) (es : List (K × V)) → find R q (mapped_entries f es) ≡ option_map f (find R q es)
  find-mapped_entries q [] = refl
  find-mapped_entries q (e ∷ es) =
      elim (eq_by_cmp R q e.0) as (λ b. cond b (Some (f e.1)) (find R q (mapped_entries f es)) ≡ option_map f (cond b (Some e.1) (find R q es))) [
        | true ↦ refl
        | false ↦ find-mapped_entries q es
      ]

module _ {K V W : Type 0} where
  pub keys_of-mapped_entries : (f : V → W) (es : List (K × V)) → keys_of (mapped_entries f es) ≡ keys_of es
  keys_of-mapped_entries f [] = refl
  keys_of-mapped_entries f (e ∷ es) = ap (λ ks. e.0 ∷ ks) (keys_of-mapped_entries f es)

module _ {K V W : Type 0} {R : K → K → Ordering} (f : V → W) where
  -- the same keys in the same order, each with its value made anew
  pub entries-map_values : (m : FinMap R V) → entries (map_values f m) ≡ mapped_entries f (entries m)
  unfolding map_values
  entries-map_values m = entries-from_sorted R _ (subst T (sym (is_sorted-mapped_entries R f (entries m))) (entries_sorted m))

  pub get-map_values : (m : FinMap R V) (q : K) → get (map_values f m) q ≡ option_map f (get m q)
  get-map_values m q =
      get-entries (map_values f m) q
      ∙ ap (find R q) (entries-map_values m)
      ∙ find-mapped_entries R f q (entries m)
      ∙ ap (option_map f) (sym (get-entries m q))

  -- it is the one map with these entries
  pub map_values-from_entries : (m : FinMap R V) (n : FinMap R W) → entries n ≡ mapped_entries f (entries m) → n ≡ map_values f m
  map_values-from_entries m n h = same_entries_map n (map_values f m) (h ∙ sym (entries-map_values m))

  module _ (o : IsTotalOrder R) (exact : IsAntisymmetric R) where
    -- it is the one map that answers so
    pub map_values-from_get : (m : FinMap R V) (n : FinMap R W) → ((q : K) → get n q ≡ option_map f (get m q)) → n ≡ map_values f m
    map_values-from_get m n h = same_map o exact n (map_values f m) (λ q. h q ∙ sym (get-map_values m q))

    -- the map of entries made anew
    pub map_values-view : (es : List (K × V)) → from_entries {R = R} (mapped_entries f es) ≡ map_values f (from_entries es)
    map_values-view es = map_values-from_get (from_entries es) _ (λ q.
        get-from_entries o (mapped_entries f es) q ∙ find-mapped_entries R f q es ∙ ap (option_map f) (sym (get-from_entries o es q)))

    option_map-cond : (b : Bool) (v : V) (x : Option V) → cond b (Some (f v)) (option_map f x) ≡ option_map f (cond b (Some v) x)
    option_map-cond true v x = refl
    option_map-cond false v x = refl

    pub map_values-insert : (m : FinMap R V) (k : K) (v : V) → map_values f (insert m k v) ≡ insert (map_values f m) k (f v)
    map_values-insert m k v = sym (map_values-from_get (insert m k v) _ (λ q.
        get-insert o (map_values f m) k (f v) q
        ∙ ap (cond (eq_by_cmp R q k) (Some (f v))) (get-map_values m q)
        ∙ option_map-cond (eq_by_cmp R q k) v (get m q)
        ∙ ap (option_map f) (sym (get-insert o m k v q))))

module _ {K V W : Type 0} {R : K → K → Ordering} where
  -- also where only the values that the map has are equal
  pub map_values-same_at : (f g : V → W) (m : FinMap R V) → mapped_entries f (entries m) ≡ mapped_entries g (entries m) → map_values f m ≡ map_values g m
  map_values-same_at f g m h = map_values-from_entries g m (map_values f m) (entries-map_values f m ∙ h)

module _ {K V : Type 0} where
  mapped_entries-identity : (es : List (K × V)) → mapped_entries (λ v. v) es ≡ es
  mapped_entries-identity [] = refl
  mapped_entries-identity (e ∷ es) = ap (λ fs. e ∷ fs) (mapped_entries-identity es)

module _ {K V : Type 0} {R : K → K → Ordering} where
  -- values that stay make the map that is there
  pub map_values-identity : (m : FinMap R V) → map_values (λ v. v) m ≡ m
  map_values-identity m = same_entries_map _ m (entries-map_values (λ v. v) m ∙ mapped_entries-identity (entries m))

-- entries of which no two have one key, put into a map
module _ {K X : Type 0} {R : K → K → Ordering} (o : IsTotalOrder R) (exact : IsAntisymmetric R) where
  pub find-apart : (q k : K) → eq_by_cmp R q k ≡ true → (es : List (K × X)) → AllByRecursion (λ y. eq_by_cmp R k y ≡ false) (keys_of es) → find R q es ≡ None
  find-apart q k at [] h = refl
  find-apart q k at (e ∷ es) h =
      let is : q ≡ k = exact q k (is_equal (R q k) at) in
      let other : eq_by_cmp R q e.0 ≡ false = ap (λ r. eq_by_cmp R r e.0) is ∙ h.0 in
      rw other (find-apart q k at es h.1)

  last_found : (q : K) (es : List (K × X)) → IsDistinct (eq_by_cmp R) (keys_of es) → (before : Option X) → last_at R q before es ≡ option_or (find R q es) before
  unfolding IsDistinct
  last_found q [] apart before = refl
  last_found q (e ∷ es) apart before =
      last_found q es apart.1 (cond (eq_by_cmp R q e.0) (Some e.1) before) ∙ step (eq_by_cmp R q e.0) refl
    where
      step : (b : Bool) → eq_by_cmp R q e.0 ≡ b → option_or (find R q es) (cond b (Some e.1) before) ≡ option_or (cond b (Some e.1) (find R q es)) before
      step true at = rw (find-apart q e.0 at es apart.0) refl
      step false at = refl

or_none : {X : Type 0} (x : Option X) → option_or x None ≡ x
or_none None = refl
or_none (Some v) = refl

-- the entries of a map, each made anew and put into a map one after the other
pub put_all-map_values : {K V W : Type 0} {R : K → K → Ordering} → IsTotalOrder R → IsAntisymmetric R → (f : V → W) (m : FinMap R V) → put_all empty (mapped_entries f (entries m)) ≡ map_values f m
put_all-map_values {R = R} o exact f m = map_values-from_get f o exact m _ (λ q.
    later_stands o empty (mapped_entries f (entries m)) q
    ∙ last_found o exact q (mapped_entries f (entries m)) (subst (λ ks. IsDistinct (eq_by_cmp R) ks) (sym (keys_of-mapped_entries f (entries m))) (IsDistinct-from_sorted R _ (entries_rise m))) (get empty q)
    ∙ ap (option_or (find R q (mapped_entries f (entries m)))) (get-empty R q)
    ∙ or_none _
    ∙ find-mapped_entries R f q (entries m)
    ∙ ap (option_map f) (sym (get-entries m q)))
