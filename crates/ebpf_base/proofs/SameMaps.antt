-- Equal maps, and copies.
use Rattle.std.proofs.Common.{◌≡◌, ℕ, Bool, true, false, ◌&&◌, nat_eq, cond, List, [], ◌∷◌, Option, Some, None, refl, sym, ap, subst, ◌∙◌, eqb, length, arith}
use Rattle.std.specs.declared.cmp.Ordering.{Ordering}
use Rattle.std.specs.Ordering.{eq_by_cmp, nat_cmp, ordering_then, is_eq}
use Rattle.std.specs.Option.{option_eq, is_some}
use Rattle.std.specs.Cmp.{IsTotalOrder, eq_by_cmp_equiv, nat_cmp_total, nat_eq_equiv, both_ways}
use Rattle.std.specs.Cmp.Lexicographic.{pointwise, unequal}
use Rattle.std.specs.List.{IsDistinct, AllByRecursion, AllZip}
use Rattle.std.specs.Map.{keys_of}
use Rattle.std.specs.HashMap.{HashMap, hash_map_eq}
use Rattle.std.specs.HashMap.Eq.{hash_map_eq_from_get, get_from_hash_map_eq}
use Rattle.std.specs.FinMap.{FinMap, IsAntisymmetric, from_entries, get, entries, find, get-entries, contains_key-keys, nat_cmp-IsAntisymmetric, put, entries-insert, same_entries_map}
use Rattle.std.proofs.lemmas.Map.Keys.{IsDistinct-from_sorted}
use Rattle.std.proofs.lemmas.Bool.{and_from, and_parts}
use Rattle.std.specs.declared.cmp.Ordering.TheVariants.{Less, Equal, Greater}
use Rattle.std.specs.String.{string_bytes}
use Rattle.std.specs.declared.string.String.{String}
use Rattle.std.specs.FinMap.Entries.{by_order}
use Rattle.std.proofs.lemmas.Bool.Decides.{nat_tests}
use Rattle.std.specs.List.Sorted.{IsStrictlySortedBy}
use Rattle.ebpf_base.specs.Maps.{maps_eq, AreCopies, by_bytes, key_cmp}
use Rattle.ebpf_base.proofs.Maps.{get-number, entries-empty, entries-view, entries_rise, same_keys}
use Rattle.ebpf_base.proofs.Mapped.{find-apart}

-- ---- maps are equal where they agree at each key, as maps that hash are compared

same_variant : {X : Type 0} (eq : X → X → Bool) (a b : Option X) → option_eq eq a b ≡ true → is_some a ≡ is_some b
same_variant eq None None h = refl
same_variant eq None (Some y) h = cc
same_variant eq (Some x) None h = cc
same_variant eq (Some x) (Some y) h = refl

module _ {K X : Type 0} {R : K → K → Ordering} (o : IsTotalOrder R) (exact : IsAntisymmetric R) (eq : X → X → Bool) where
  abbrev same_entry : K × X → K × X → Bool
  same_entry e f = eq_by_cmp R e.0 f.0 && eq e.1 f.1

  -- lists that are equal entry by entry agree at each key
  agree_from_equal : (es fs : List (K × X)) → pointwise same_entry es fs ≡ true → (q : K) → option_eq eq (find R q es) (find R q fs) ≡ true
  agree_from_equal [] [] h q = refl
  agree_from_equal [] (f ∷ fs) h q = cc
  agree_from_equal (e ∷ es) [] h q = cc
  agree_from_equal (e ∷ es) (f ∷ fs) h q =
      let split = and_parts (same_entry e f) (pointwise same_entry es fs) h in
      let here = and_parts (eq_by_cmp R e.0 f.0) (eq e.1 f.1) split.0 in
      let laws = eq_by_cmp_equiv o in
      let tied : eq_by_cmp R q e.0 ≡ eq_by_cmp R q f.0 = laws.symm q e.0 ∙ laws.congr e.0 f.0 q here.0 ∙ laws.symm f.0 q in
      let rest = agree_from_equal es fs split.1 q in
      subst (λ b. option_eq eq (cond (eq_by_cmp R q e.0) (Some e.1) (find R q es)) (cond b (Some f.1) (find R q fs)) ≡ true) tied
      (elim (eq_by_cmp R q e.0) as (λ b. option_eq eq (cond b (Some e.1) (find R q es)) (cond b (Some f.1) (find R q fs)) ≡ true) [ true ↦ here.1 | false ↦ rest ])

  -- and lists with the same keys that agree at each are equal entry by entry
  equal_from_agree : (es fs : List (K × X)) → keys_of es ≡ keys_of fs → IsDistinct (eq_by_cmp R) (keys_of es) → ((q : K) → option_eq eq (find R q es) (find R q fs) ≡ true) → pointwise same_entry es fs ≡ true
  unfolding IsDistinct
  equal_from_agree [] [] same apart agree = refl
  equal_from_agree [] (f ∷ fs) same apart agree = cc
  equal_from_agree (e ∷ es) [] same apart agree = cc
  equal_from_agree (e ∷ es) (f ∷ fs) same apart agree =
      let head : e.0 ≡ f.0 = cc in
      let tail : keys_of es ≡ keys_of fs = cc in
      let left : eq_by_cmp R e.0 e.0 ≡ true = (eq_by_cmp_equiv o).refl e.0 in
      let right : eq_by_cmp R e.0 f.0 ≡ true = ap (eq_by_cmp R e.0) (sym head) ∙ left in
      let value : eq e.1 f.1 ≡ true = rw (left, right) at (agree e.0) in
      and_from _ _ (and_from _ _ right value) (equal_from_agree es fs tail apart.1 (λ q. rest q (eq_by_cmp R q e.0) refl head tail))
    where
      rest : (q : K) (b : Bool) → eq_by_cmp R q e.0 ≡ b → e.0 ≡ f.0 → keys_of es ≡ keys_of fs → option_eq eq (find R q es) (find R q fs) ≡ true
      rest q true at head tail =
          rw (find-apart o exact q e.0 at es apart.0, find-apart o exact q e.0 at fs (subst (λ ks. AllByRecursion (λ y. eq_by_cmp R e.0 y ≡ false) ks) tail apart.0)) refl
      rest q false at head tail =
          let other : eq_by_cmp R q f.0 ≡ false = ap (eq_by_cmp R q) (sym head) ∙ at in
          rw (at, other) at (agree q)

  pub agree_from_maps : (m n : FinMap R X) → maps_eq eq m n ≡ true → (q : K) → option_eq eq (get m q) (get n q) ≡ true
  agree_from_maps m n h q = rw (get-entries m q, get-entries n q) (agree_from_equal (entries m) (entries n) h q)

  pub maps_from_agree : (m n : FinMap R X) → ((q : K) → option_eq eq (get m q) (get n q) ≡ true) → maps_eq eq m n ≡ true
  maps_from_agree m n agree =
      let same : keys_of (entries m) ≡ keys_of (entries n) = same_keys o exact _ _ (entries_rise m) (entries_rise n) (λ q. sym (contains_key-keys m q) ∙ same_variant eq _ _ (agree q) ∙ contains_key-keys n q) in
      equal_from_agree (entries m) (entries n) same (IsDistinct-from_sorted R _ (entries_rise m)) (λ q. rw (← get-entries m q, ← get-entries n q) (agree q))

module _ {X S : Type 0} (eq : X → X → Bool) where
  -- maps that hash numbers
  pub hashed_numbers : (m n : HashMap ℕ X S) → hash_map_eq nat_eq eq m n ≡ maps_eq {R = nat_cmp} eq (from_entries m.entries) (from_entries n.entries)
  hashed_numbers m n = both_ways _ _
      (λ h. maps_from_agree nat_cmp_total nat_cmp-IsAntisymmetric eq _ _ (λ q. rw (get-number m.entries q, get-number n.entries q) (get_from_hash_map_eq nat_eq eq nat_eq_equiv m n h q)))
      (λ h. hash_map_eq_from_get nat_eq eq m n (λ q. rw (← get-number m.entries q, ← get-number n.entries q) (agree_from_maps nat_cmp_total nat_cmp-IsAntisymmetric eq _ _ h q)))

-- ---- copied entries make copied maps, and exact copies are equal

module _ {K X : Type 0} (D : X → X → Type 0) where
  abbrev IsEntryCopy : K × X → K × X → Type 0
  IsEntryCopy e f = (f.0 ≡ e.0) × D e.1 f.1

  copied_put : (R : K → K → Ordering) (k : K) (v w : X) (es fs : List (K × X)) → D v w → AllZip IsEntryCopy es fs → AllZip IsEntryCopy (put R k v es) (put R k w fs)
  copied_put R k v w [] [] d h = ((refl, d), tt)
  copied_put R k v w [] (f ∷ fs) d h = absurd h
  copied_put R k v w (e ∷ es) [] d h = absurd h
  copied_put R k v w (e ∷ es) (f ∷ fs) d h =
      subst (λ r. AllZip IsEntryCopy (by_order (R k e.0) ((k, v) ∷ e ∷ es) ((e.0, v) ∷ es) (e ∷ put R k v es)) (by_order r ((k, w) ∷ f ∷ fs) ((f.0, w) ∷ fs) (f ∷ put R k w fs))) (ap (R k) (sym h.0.0))
      (elim (R k e.0) as (λ r. AllZip IsEntryCopy (by_order r ((k, v) ∷ e ∷ es) ((e.0, v) ∷ es) (e ∷ put R k v es)) (by_order r ((k, w) ∷ f ∷ fs) ((f.0, w) ∷ fs) (f ∷ put R k w fs))) [
        | Less ↦ ((refl, d), h)
        | Equal ↦ ((h.0.0, d), h.1)
        | Greater ↦ (h.0, copied_put R k v w es fs d h.1)
      ])

  -- copied entries make copied maps
  pub copied_maps : {R : K → K → Ordering} → IsTotalOrder R → (es fs : List (K × X)) → AllZip (λ e f. (f.0 ≡ e.0) × D e.1 f.1) es fs → AreCopies D (from_entries {R = R} es) (from_entries fs)
  copied_maps {R = R} o [] [] h = rw (entries-empty R X) tt
  copied_maps o [] (f ∷ fs) h = absurd h
  copied_maps o (e ∷ es) [] h = absurd h
  copied_maps {R = R} o (e ∷ es) (f ∷ fs) h =
      let rest = copied_put R e.0 e.1 f.1 _ _ h.0.1 (copied_maps o es fs h.1) in
      rw (entries-insert o, entries-insert o, h.0.0) rest

-- entries keyed by texts
pub copied_texts : {X Y : Type 0} (D : X → X → Type 0) (es fs : List (String Y × X)) → AllZip (λ e f. (string_bytes f.0 ≡ string_bytes e.0) × D e.1 f.1) es fs → AllZip (λ e f. (f.0 ≡ e.0) × D e.1 f.1) (by_bytes es) (by_bytes fs)
copied_texts D [] [] h = tt
copied_texts D (e ∷ es) (f ∷ fs) h = (h.0, copied_texts D es fs h.1)
copied_texts D _ _ h = absurd h

-- entries keyed by pairs
pub copied_pairs : {X : Type 0} (D : X → X → Type 0) (es fs : List ((ℕ × ℕ) × X)) → AllZip (λ e f. ((f.0.0 ≡ e.0.0) × (f.0.1 ≡ e.0.1)) × D e.1 f.1) es fs → AllZip (λ e f. (f.0 ≡ e.0) × D e.1 f.1) es fs
copied_pairs D [] [] h = tt
copied_pairs D (e ∷ es) (f ∷ fs) h = ((λ i. (h.0.0.0 i, h.0.0.1 i), h.0.1), copied_pairs D es fs h.1)
copied_pairs D _ _ h = absurd h

same_entries : {K X : Type 0} (D : X → X → Type 0) → ((v w : X) → D v w → w ≡ v) → (es fs : List (K × X)) → AllZip (λ e f. (f.0 ≡ e.0) × D e.1 f.1) es fs → fs ≡ es
same_entries D same [] [] h = refl
same_entries D same (e ∷ es) (f ∷ fs) h = λ i. (h.0.0 i, same e.1 f.1 h.0.1 i) ∷ same_entries D same es fs h.1 i
same_entries D same _ _ h = absurd h

-- where a copied value is equal, a copied map is
pub exact_copy : {K X : Type 0} {R : K → K → Ordering} (D : X → X → Type 0) → ((v w : X) → D v w → w ≡ v) → (m n : FinMap R X) → AreCopies D m n → n ≡ m
exact_copy D same m n h = same_entries_map n m (same_entries D same (entries m) (entries n) h)

-- ---- equality of lists of entries

pointwise_same : {X : Type 0} (E F : X → X → Bool) → ((x y : X) → E x y ≡ F x y) → (xs ys : List X) → pointwise E xs ys ≡ pointwise F xs ys
pointwise_same E F h xs ys = λ i. pointwise (λ x y. h x y i) xs ys

module _ {K X : Type 0} {R : K → K → Ordering} (o : IsTotalOrder R) (K' : K → K → Bool) (agrees : (x y : K) → K' x y ≡ eq_by_cmp R x y) (eq : X → X → Bool) where
  -- entries in order are equal as the maps are
  pub same_maps : (es fs : List (K × X)) → IsStrictlySortedBy R (keys_of es) → IsStrictlySortedBy R (keys_of fs) → pointwise (λ p q. K' p.0 q.0 && eq p.1 q.1) es fs ≡ maps_eq {R = R} eq (from_entries es) (from_entries fs)
  same_maps es fs up vp =
      pointwise_same _ (λ e f. eq_by_cmp R e.0 f.0 && eq e.1 f.1) (λ e f. ap (λ b. b && eq e.1 f.1) (agrees e.0 f.0)) es fs
      ∙ rw (entries-view o es up, entries-view o fs vp) refl

module _ {K X : Type 0} {R : K → K → Ordering} (o : IsTotalOrder R) (eq : X → X → Bool) where
  -- maps of other lengths are not equal
  pub other_maps : (es fs : List (K × X)) → IsStrictlySortedBy R (keys_of es) → IsStrictlySortedBy R (keys_of fs) → (length es ≡ length fs → ⊥) → maps_eq {R = R} eq (from_entries es) (from_entries fs) ≡ false
  other_maps es fs up vp differ = unequal _ _ _ (λ e. differ (sym (ap length (entries-view o es up)) ∙ e ∙ ap length (entries-view o fs vp)))

pub not_same : (x y : ℕ) → (x ≡ y → ⊥) → eqb x y ≡ false
not_same x y differ = grind (arith, nat_tests)

pub number_agrees : (x y : ℕ) → eqb x y ≡ eq_by_cmp nat_cmp x y
number_agrees x y = grind (arith, nat_tests)

both_equal : (r s : Ordering) → (is_eq r && is_eq s) ≡ is_eq (ordering_then r s)
both_equal Less s = refl
both_equal Equal s = refl
both_equal Greater s = refl

pub key_agrees : (x y : ℕ × ℕ) → (eqb x.0 y.0 && eqb x.1 y.1) ≡ eq_by_cmp key_cmp x y
key_agrees x y = (λ i. number_agrees x.0 y.0 i && number_agrees x.1 y.1 i) ∙ both_equal (nat_cmp x.0 y.0) (nat_cmp x.1 y.1)
