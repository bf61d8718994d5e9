-- What holds of each entry holds of what stands in a table of them, and a table built of entries in one go.
use Rattle.std.proofs.Common.{◌≡◌, ℕ, suc, zero, true, false, List, [], ◌∷◌, ◌++◌, Option, Some, None, refl, sym, ap, subst, ◌∙◌, slice_get, if◌then◌else◌, cond}
use Rattle.std.specs.BTreeMap.{BTreeMap, IsFromIterResult}
use Rattle.std.specs.Cmp.{IsTotalOrder, eq_by_cmp_equiv}
use Rattle.std.specs.FinMap.{get, empty, get-empty, IsAntisymmetric, from_entries, same_map}
use Rattle.std.specs.List.{AllByRecursion, flat_map}
use Rattle.std.specs.Map.{update, update_all}
use Rattle.std.specs.Ordering.{eq_by_cmp}
use Rattle.std.specs.declared.cmp.Ordering.{Ordering}
use Rattle.std.specs.declared.cmp.Ordering.TheVariants.{Equal}
use Rattle.ebpf_base.proofs.Mapped.{later_stands}
use Rattle.ebpf_base.proofs.Maps.{get-view, is_equal}
use Rattle.ebpf_base.specs.Maps.{LaterStands, put_all, last_at}

-- ---- what holds of each entry holds of what stands in a table of them

-- ---- of all entries

module _ {K X : Type 0} (R : K → K → Ordering) (exact : (x y : K) → R x y ≡ Equal → x ≡ y) (P : K → X → Type 0) (q : K) where
  stands_from : (z : Option X) → ((x : X) → z ≡ Some x → P q x) → (es : List (K × X)) → AllByRecursion (λ e. P e.0 e.1) es → (x : X) → last_at R q z es ≡ Some x → P q x
  stands_from z before [] every x e = before x e
  stands_from z before (h ∷ es) every x e = stands_from (if eq_by_cmp R q h.0 then Some h.1 else z)
      (elim (eq_by_cmp R q h.0) as (λ b. eq_by_cmp R q h.0 ≡ b → (y : X) → (if b then Some h.1 else z) ≡ Some y → P q y) [
        | true ↦ λ t y f. let same : h.1 ≡ y = cc in subst (P q) same (subst (λ k. P k h.1) (sym (exact q h.0 (is_equal _ t))) every.0)
        | false ↦ λ t y f. before y f
      ] refl)
      es every.1 x e

  -- what stands at a key is an entry with this key
  pub stands : LaterStands R X → (es : List (K × X)) → AllByRecursion (λ e. P e.0 e.1) es → (x : X) → get (put_all {R = R} empty es) q ≡ Some x → P q x
  stands later es every x e =
      stands_from None (λ y f. absurd (let no : ⊥ = cc in no)) es every x
      (ap (λ z. last_at R q z es) (sym (get-empty R q)) ∙ (sym (later empty es q) ∙ e))

module _ {B : Type 0} (P : B → Type 0) where
  all_append : (xs ys : List B) → AllByRecursion P xs → AllByRecursion P ys → AllByRecursion P (xs ++ ys)
  all_append [] ys h k = k
  all_append (x ∷ xs) ys h k = (h.0, all_append xs ys h.1 k)

  -- of the items that each of some things gives
  pub all_flat_map : {A : Type 0} (g : A → List B) (xs : List A) → ((i : ℕ) (x : A) → slice_get xs i ≡ Some x → AllByRecursion P (g x)) → AllByRecursion P (flat_map g xs)
  all_flat_map g [] h = tt
  all_flat_map g (x ∷ xs) h = all_append (g x) (flat_map g xs) (h 0 x refl) (all_flat_map g xs (λ i y e. h (suc i) y e))

-- ---- of one entry

-- one of some items, by its place
abbrev pub Among : {B : Type 0} → B → List B → Type 0
Among b xs = (k : ℕ) × (slice_get xs k ≡ Some b)

module _ {B : Type 0} (b : B) where
  in_left : (xs ys : List B) (j : ℕ) → slice_get xs j ≡ Some b → Among b (xs ++ ys)
  in_left [] ys j e = absurd (let no : ⊥ = cc in no)
  in_left (x ∷ xs) ys zero e = (0, e)
  in_left (x ∷ xs) ys (suc j) e = let found = in_left xs ys j e in (suc found.0, found.1)

  in_right : (xs ys : List B) → Among b ys → Among b (xs ++ ys)
  in_right [] ys found = found
  in_right (x ∷ xs) ys found = let later = in_right xs ys found in (suc later.0, later.1)

  pub in_flat_map : {A : Type 0} (g : A → List B) (xs : List A) (i : ℕ) (x : A) → slice_get xs i ≡ Some x → (j : ℕ) → slice_get (g x) j ≡ Some b → Among b (flat_map g xs)
  in_flat_map g [] i x e j f = absurd (let no : ⊥ = cc in no)
  in_flat_map g (y ∷ ys) zero x e j f = let same : y ≡ x = cc in in_left (g y) (flat_map g ys) j (subst (λ t. slice_get (g t) j ≡ Some b) (sym same) f)
  in_flat_map g (y ∷ ys) (suc i) x e j f = in_right (g y) (flat_map g ys) (in_flat_map g ys i x e j f)

module _ {K X : Type 0} (R : K → K → Ordering) (o : IsTotalOrder R) (q : K) where
  -- what is known stays known
  kept_known : (es : List (K × X)) (z : Option X) (v : X) → z ≡ Some v → (x : X) × (last_at R q z es ≡ Some x)
  kept_known [] z v t = (v, t)
  kept_known (h ∷ es) z v t = elim (eq_by_cmp R q h.0) as (λ b. (x : X) × (last_at R q (if b then Some h.1 else z) es ≡ Some x)) [
    | true ↦ kept_known es (Some h.1) h.1 refl
    | false ↦ kept_known es z v t
  ]

  known_from : (es : List (K × X)) (z : Option X) (v : X) (i : ℕ) → slice_get es i ≡ Some (q, v) → (x : X) × (last_at R q z es ≡ Some x)
  known_from [] z v i e = absurd (let no : ⊥ = cc in no)
  known_from (h ∷ es) z v zero e =
      let same : h ≡ (q, v) = cc in
      let test : eq_by_cmp R q h.0 ≡ true = ap (λ t. eq_by_cmp R q t.0) same ∙ (eq_by_cmp_equiv o).refl q in
      subst (λ b. (x : X) × (last_at R q (if b then Some h.1 else z) es ≡ Some x)) (sym test) (kept_known es (Some h.1) h.1 refl)
  known_from (h ∷ es) z v (suc i) e = known_from es (if eq_by_cmp R q h.0 then Some h.1 else z) v i e

  -- at the key of an entry something stands
  pub known : LaterStands R X → (es : List (K × X)) (v : X) → Among (q, v) es → (x : X) × (get (put_all {R = R} empty es) q ≡ Some x)
  known later es v place = let found = known_from es (get (empty {R = R}) q) v place.0 place.1 in (found.0, later empty es q ∙ found.1)

-- ---- a table built of a list of entries in one go

-- pairs inserted in turn leave the last one at each key
updated : {K X : Type 0} {R : K → K → Ordering} → IsTotalOrder R → (f : K → Option X) (xs : List (K × X)) (q : K) → update_all (eq_by_cmp R) f xs q ≡ last_at R q (f q) xs
updated o f [] q = refl
updated {R = R} o f (x ∷ xs) q =
    updated o (update (eq_by_cmp R) f x.0 (Some x.1)) xs q
    ∙ ap (λ b. last_at R q (cond b (Some x.1) (f q)) xs) ((eq_by_cmp_equiv o).symm x.0 q)

-- the tree that a list of entries is collected into holds the table that they make, put into the empty one after the other
pub built : {K X : Type 0} {R : K → K → Ordering} (o : IsTotalOrder R) (exact : IsAntisymmetric R) (xs : List (K × X)) (tree : BTreeMap K X)
    → IsFromIterResult R xs tree → from_entries {R = R} tree.entries ≡ put_all empty xs
built {R = R} o exact xs tree made = same_map o exact _ _ (λ q.
    get-view o tree.entries q ∙ made.0 q ∙ updated o (λ _. None) xs q
    ∙ sym (later_stands o empty xs q ∙ ap (λ v. last_at R q v xs) (get-empty R q)))
