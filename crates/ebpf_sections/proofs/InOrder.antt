-- Lists in order of a number of each element: what stands at one number, and the part of them between two.
use Rattle.std.proofs.Common.{◌≡◌, ℕ, suc, ◌+◌, ◌<◌, Bool, true, false, List, [], ◌∷◌, length, take, drop, Some, None, refl, sym, ap, ◌∙◌, arith, zero, ◌-◌, ◌≤◌, filter, subst, get_or, inl, inr}
use Rattle.std.proofs.lemmas.Bool.{cases_lt, and_parts}
use Rattle.std.proofs.lemmas.Bool.Decides.{nat_tests}
use Rattle.std.proofs.lemmas.List.{get_or_default}
use Rattle.std.specs.Bool.{MatchBool, OnTrue}
use Rattle.std.specs.List.{find, AllAdjacentBelow, AllWithin}
use Rattle.std.specs.List.Sorted.{IsNonDecreasingBy, IsPartitionPoint, IsStableByKey, ties}
use Rattle.std.specs.Ordering.{nat_cmp, is_lt}
use Rattle.std.specs.Prelude.{◌⊎◌, ◌==◌, nat_le}
use Rattle.ebpf_base.proofs.Lists.{filter-same}
use Rattle.ebpf_sections.specs.Records.{rises_from, is_among_slots, RowsBeginAt}

-- what a test that answers true shows
pub if_below : (b : Bool) (P Q R : Type 0) → MatchBool b P Q → (P → R) → OnTrue b R
if_below true P Q R tells shows = shows tells
if_below false P Q R tells shows = tt

-- ---- the first that passes a test

module _ {X : Type 0} (p : X → Bool) where
  pub find_here : (xs : List X) (i : ℕ) (x : X) → ((k : ℕ) (d : X) → k < i → p (get_or xs k d) ≡ false) → i < length xs → x ≡ get_or xs i x → p x ≡ true → find p xs ≡ Some x
  find_here [] i x before below here passes = absurd (omega arith)
  find_here (y ∷ ys) zero x before below here passes = rw (ap p (sym here) ∙ passes) (ap (λ z. Some z) (sym here))
  find_here (y ∷ ys) (suc i) x before below here passes =
      rw (before 0 x (omega arith)) (find_here ys i x (λ k d low. before (suc k) d (omega arith)) (omega arith) here passes)

  pub find_none : (xs : List X) → ((k : ℕ) (d : X) → k < length xs → p (get_or xs k d) ≡ false) → find p xs ≡ None
  find_none [] fails = refl
  find_none (x ∷ xs) fails = rw (fails 0 x (omega arith)) (find_none xs (λ k d below. fails (suc k) d (omega arith)))

  one_passes : (xs : List X) → (filter p xs ≡ []) ⊎ ((x : X) × (p x ≡ true))
  one_passes [] = inl refl
  one_passes (x ∷ xs) = by_case (p x) refl (one_passes xs)
    where
      by_case : (b : Bool) → p x ≡ b → (filter p xs ≡ []) ⊎ ((y : X) × (p y ≡ true)) → (filter p (x ∷ xs) ≡ []) ⊎ ((y : X) × (p y ≡ true))
      by_case true e rest = inr (x, e)
      by_case false e (inl none) = inl (rw e none)
      by_case false e (inr some) = inr some

-- ---- in order of a number

module _ {X : Type 0} (n : X → ℕ) where
  abbrev pub stands_at : ℕ → X → Bool
  stands_at q x = n x == q

  tied : (q : ℕ) (x y : X) → n x ≡ q → ties (λ a b. is_lt (nat_cmp (n a) (n b))) x y ≡ stands_at q y
  tied q x y here = grind (arith, nat_tests, here)

  at_one : (q : ℕ) (x : X) → stands_at q x ≡ true → n x ≡ q
  at_one q x e = grind (arith, nat_tests, e)

  by_one : (xs ys : List X) → IsStableByKey n nat_cmp xs ys → (q : ℕ) (x : X) → n x ≡ q → filter (stands_at q) ys ≡ filter (stands_at q) xs
  by_one xs ys stable q x here = sym (filter-same _ _ ys (λ y. tied q x y here)) ∙ stable x ∙ filter-same _ _ xs (λ y. tied q x y here)

  -- sorted and stable: those of each number are the same
  pub stable_at : (xs ys : List X) → IsStableByKey n nat_cmp xs ys → (q : ℕ) → filter (stands_at q) ys ≡ filter (stands_at q) xs
  stable_at xs ys stable q = by_case (one_passes (stands_at q) xs) (one_passes (stands_at q) ys)
    where
      by_case : (filter (stands_at q) xs ≡ []) ⊎ ((x : X) × (stands_at q x ≡ true)) → (filter (stands_at q) ys ≡ []) ⊎ ((y : X) × (stands_at q y ≡ true)) → filter (stands_at q) ys ≡ filter (stands_at q) xs
      by_case (inl e) (inl f) = f ∙ sym e
      by_case (inl e) (inr y) = by_one xs ys stable q y.0 (at_one q y.0 y.1)
      by_case (inr x) other = by_one xs ys stable q x.0 (at_one q x.0 x.1)

  -- the place where a number begins has the first element at it
  pub found_at : (q : ℕ) (xs : List X) (i : ℕ) (x : X) → IsPartitionPoint (λ y. n y < q) (λ y. q ≤ n y) xs i → i < length xs → x ≡ get_or xs i x → n x ≡ q → find (stands_at q) xs ≡ Some x
  found_at q xs i x cut below here at =
      find_here (stands_at q) xs i x (λ k d low. let less = cut.0 k d (omega arith) low in grind (arith, nat_tests, less)) below here (grind (arith, nat_tests, at))

  pub past_all : (q : ℕ) (xs : List X) (i : ℕ) → IsPartitionPoint (λ y. n y < q) (λ y. q ≤ n y) xs i → length xs ≤ i → find (stands_at q) xs ≡ None
  past_all q xs i cut past =
      find_none (stands_at q) xs (λ k d below. let less = cut.0 k d (omega arith) (omega arith) in grind (arith, nat_tests, less))

  pub found_other : (q : ℕ) (xs : List X) (i : ℕ) (x : X) → IsNonDecreasingBy n xs → IsPartitionPoint (λ y. n y < q) (λ y. q ≤ n y) xs i → i < length xs → x ≡ get_or xs i x → (n x ≡ q → ⊥) → find (stands_at q) xs ≡ None
  found_other q xs i x up cut below here apart =
      find_none (stands_at q) xs (λ k d inside. by_case k d inside (cases_lt k i))
    where
      by_case : (k : ℕ) (d : X) → k < length xs → (k < i) ⊎ (i ≤ k) → stands_at q (get_or xs k d) ≡ false
      by_case k d inside (inl low) = let less = cut.0 k d (omega arith) low in grind (arith, nat_tests, less)
      by_case k d inside (inr high) =
          let least : q ≤ n (get_or xs i x) = cut.1 i x (omega arith) below in
          let more : n (get_or xs i x) ≤ n (get_or xs k x) = up i k x high inside in
          let read : n x ≡ n (get_or xs i x) = ap n here in
          let same : n (get_or xs k x) ≡ n (get_or xs k d) = ap n (get_or_default xs k x d inside) in
          grind (arith, nat_tests, apart, least, more, read, same)

  -- where each is greater than the one before it, at most one is at a number
  abbrev pub Rises : List X → Type 0
  Rises xs = AllAdjacentBelow (λ x y. n x < n y) xs (length xs)

  rest_rises : (x : X) (xs : List X) → Rises (x ∷ xs) → Rises xs
  rest_rises x xs rising = λ k d below.
      let next : suc k + 1 ≡ suc (k + 1) = omega arith in
      subst (λ m. n (get_or (x ∷ xs) (suc k) d) < n (get_or (x ∷ xs) m d)) next (rising (suc k) d (omega arith))

  none_above : (q a : ℕ) (xs : List X) → q ≤ a → ((d : X) → 0 < length xs → a < n (get_or xs 0 d)) → Rises xs → filter (stands_at q) xs ≡ []
  none_above q a [] low above rising = refl
  none_above q a (x ∷ xs) low above rising =
      let more : a < n x = above x (omega arith) in
      let apart : stands_at q x ≡ false = grind (arith, nat_tests, more, low) in
      rw apart (none_above q (n x) xs (omega arith) (λ d some. rising 0 d (omega arith)) (rest_rises x xs rising))

  pub one_at_most : (q : ℕ) (xs : List X) → Rises xs → length (filter (stands_at q) xs) ≤ 1
  one_at_most q [] rising = omega arith
  one_at_most q (x ∷ xs) rising = by_case (stands_at q x) refl (one_at_most q xs (rest_rises x xs rising))
    where
      by_case : (b : Bool) → stands_at q x ≡ b → length (filter (stands_at q) xs) ≤ 1 → length (filter (stands_at q) (x ∷ xs)) ≤ 1
      by_case true e others =
          let here : n x ≡ q = at_one q x e in
          let none : filter (stands_at q) xs ≡ [] = none_above q (n x) xs (omega arith) (λ d some. rising 0 d (omega arith)) (rest_rises x xs rising) in
          rw (e, none) (omega arith)
      by_case false e others = rw e others

-- ---- rows whose slots never fall are in order

module _ {X : Type 0} (slot : X → ℕ) where
  -- where they rise from a slot on, none is below it
  slots_above : (least : ℕ) (xs : List X) → rises_from slot least xs ≡ true → (j : ℕ) (d : X) → j < length xs → least ≤ slot (get_or xs j d)
  slots_above least [] rises j d below = absurd (omega arith)
  slots_above least (x ∷ xs) rises zero d below = let first = (and_parts (nat_le least (slot x)) (rises_from slot (slot x) xs) rises).0 in grind (arith, nat_tests, first)
  slots_above least (x ∷ xs) rises (suc j) d below =
      let both = and_parts (nat_le least (slot x)) (rises_from slot (slot x) xs) rises in
      let first : least ≤ slot x = grind (arith, nat_tests, both.0) in
      let rest : slot x ≤ slot (get_or xs j d) = slots_above (slot x) xs both.1 j d (omega arith) in
      omega (arith, first, rest)

  -- and they are in order
  pub in_order : (least : ℕ) (xs : List X) → rises_from slot least xs ≡ true → IsNonDecreasingBy slot xs
  in_order least [] rises i j d up below = absurd (omega arith)
  in_order least (x ∷ xs) rises zero zero d up below = omega arith
  in_order least (x ∷ xs) rises zero (suc j) d up below = slots_above (slot x) xs (and_parts (nat_le least (slot x)) (rises_from slot (slot x) xs) rises).1 j d (omega arith)
  in_order least (x ∷ xs) rises (suc i) zero d up below = absurd (omega arith)
  in_order least (x ∷ xs) rises (suc i) (suc j) d up below = in_order (slot x) xs (and_parts (nat_le least (slot x)) (rises_from slot (slot x) xs) rises).1 i j d (omega arith) (omega arith)

-- ---- a part of a list

module _ {X : Type 0} (p : X → Bool) where
  pub none_passes : (xs : List X) → ((k : ℕ) (d : X) → k < length xs → p (get_or xs k d) ≡ false) → filter p xs ≡ []
  none_passes [] fails = refl
  none_passes (x ∷ xs) fails = rw (fails 0 x (omega arith)) (none_passes xs (λ k d below. fails (suc k) d (omega arith)))

  front_passes : (xs : List X) (n : ℕ) → n ≤ length xs → AllWithin (λ x. p x ≡ true) xs 0 n → ((k : ℕ) (d : X) → n ≤ k → k < length xs → p (get_or xs k d) ≡ false) → filter p xs ≡ take n xs
  front_passes xs zero within passes fails = none_passes xs (λ k d below. fails k d (omega arith) below)
  front_passes [] (suc n) within passes fails = refl
  front_passes (x ∷ xs) (suc n) within passes fails =
      rw (passes 0 x (omega arith) (omega arith))
      (ap (λ l. x ∷ l) (front_passes xs n (omega arith) (λ k d low high. passes (suc k) d (omega arith) (omega arith)) (λ k d low high. fails (suc k) d (omega arith) (omega arith))))

  part_passes : (xs : List X) (start n : ℕ) → start + n ≤ length xs
      → ((k : ℕ) (d : X) → k < start → p (get_or xs k d) ≡ false)
      → ((k : ℕ) (d : X) → start ≤ k → k < start + n → p (get_or xs k d) ≡ true)
      → ((k : ℕ) (d : X) → start + n ≤ k → k < length xs → p (get_or xs k d) ≡ false)
      → filter p xs ≡ take n (drop start xs)
  part_passes xs zero n within before inside after =
      front_passes xs n (omega arith) (λ k d low high. inside k d (omega arith) (omega arith)) (λ k d low high. after k d (omega arith) (omega arith))
  part_passes [] (suc start) n within before inside after = absurd (omega arith)
  part_passes (x ∷ xs) (suc start) n within before inside after =
      rw (before 0 x (omega arith))
      (part_passes xs start n (omega arith) (λ k d high. before (suc k) d (omega arith)) (λ k d low high. inside (suc k) d (omega arith) (omega arith)) (λ k d low high. after (suc k) d (omega arith) (omega arith)))

-- ---- where the rows of a slot begin

module _ {X : Type 0} (slot : X → ℕ) where
  pub begin_in_order : (a b : ℕ) (xs : List X) (i j : ℕ) → RowsBeginAt slot a xs i → RowsBeginAt slot b xs j → a ≤ b → i ≤ length xs → i ≤ j
  begin_in_order a b [] i j low high up within = omega arith
  begin_in_order a b (x ∷ xs) i j low high up within = by_case (cases_lt j i)
    where
      by_case : (j < i) ⊎ (i ≤ j) → i ≤ j
      by_case (inl past) =
          let below : slot (get_or (x ∷ xs) j x) < a = low.0 j x (omega arith) past in
          let above : b ≤ slot (get_or (x ∷ xs) j x) = high.1 j x (omega arith) (omega arith) in
          absurd (omega arith)
      by_case (inr here) = here

  pub part_among : (first count : ℕ) (xs : List X) (i j : ℕ) → RowsBeginAt slot first xs i → RowsBeginAt slot (first + count) xs j → i ≤ j → j ≤ length xs
      → take (j - i) (drop i xs) ≡ filter (is_among_slots slot first count) xs
  part_among first count xs i j low high up within =
      sym (part_passes (is_among_slots slot first count) xs i (j - i) (omega arith)
      (λ k d before. let below = low.0 k d (omega arith) before in grind (arith, nat_tests, below))
      (λ k d from to. let above = low.1 k d from (omega arith) in let below = high.0 k d (omega arith) (omega arith) in grind (arith, nat_tests, above, below))
      (λ k d from to. let above = high.1 k d (omega arith) to in grind (arith, nat_tests, above)))

  -- what the rows beside an index say of all of them
  pub begin_at : (s : ℕ) (xs : List X) (n : ℕ) → IsNonDecreasingBy slot xs → n ≤ length xs
      → ((d : X) → 0 < n → slot (get_or xs (n - 1) d) < s) → ((d : X) → n < length xs → s ≤ slot (get_or xs n d)) → RowsBeginAt slot s xs n
  begin_at s xs n rising within before after = (
    λ k d low high. let last = before d (omega arith) in let up : slot (get_or xs k d) ≤ slot (get_or xs (n - 1) d) = rising k (n - 1) d (omega arith) (omega arith) in omega (arith, last, up),
    λ k d low high. let first = after d (omega arith) in let up : slot (get_or xs n d) ≤ slot (get_or xs k d) = rising n k d low high in omega (arith, first, up),
  )

  -- rows of which those up to an index are below a limit, and the one there isn't
  pub begin_behind : (limit : ℕ) (xs : List X) (n : ℕ) → IsNonDecreasingBy slot xs → ((k : ℕ) (d : X) → k < n → slot (get_or xs k d) < limit)
      → ((d : X) → n < length xs → limit ≤ slot (get_or xs n d)) → RowsBeginAt slot limit xs n
  begin_behind limit xs n rising below after = (
    λ k d low high. below k d high,
    λ k d low high. let first = after d (omega arith) in let up : slot (get_or xs n d) ≤ slot (get_or xs k d) = rising n k d low high in omega (arith, first, up),
  )
