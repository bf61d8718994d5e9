-- One list operation after another, in one; places; steps of a walk over a slice.
use Rattle.std.proofs.Common.{◌≡◌, Bool, true, false, ◌&&◌, cond, List, [], ◌∷◌, ◌++◌, map, Some, refl, ap, ◌≢◌, ℕ, ◌<◌, zero, suc, length, arith, ◌+◌, ◌-◌, ◌≤◌, drop, Option, sym, ◌∙◌}
use Rattle.std.specs.List.{slice_get, filter, flat_map, find, slice_set, range_with_len}
use Rattle.std.specs.Option.{option_map}
pub use Rattle.std.proofs.lemmas.List.FromFn.{length-range_with_len as length-range, length-map-range_with_len as length-map-range}
use Rattle.std.specs.Prelude.{if◌then◌else◌, slice_index_or}
use Rattle.std.proofs.Math.Seq.{drop-cons}
use Rattle.std.proofs.lemmas.List.{drop_all}
use Rattle.ebpf_base.specs.Faults.{or_else, first_some}

module _ {A B C : Type 0} where
  pub map-map : (g : B → C) (f : A → B) (xs : List A) → map g (map f xs) ≡ map (λ x. g (f x)) xs
  map-map g f [] = refl
  map-map g f (x ∷ xs) = ap (λ ys. g (f x) ∷ ys) (map-map g f xs)

module _ {A B : Type 0} where
  pub filter-map : (p : B → Bool) (f : A → B) (xs : List A) → filter p (map f xs) ≡ map f (filter (λ x. p (f x)) xs)
  filter-map p f [] = refl
  filter-map p f (x ∷ xs) =
      elim (p (f x)) as (λ b. cond b (f x ∷ filter p (map f xs)) (filter p (map f xs)) ≡ map f (cond b (x ∷ filter (λ x. p (f x)) xs) (filter (λ x. p (f x)) xs))) [
        | true ↦ ap (λ ys. f x ∷ ys) (filter-map p f xs)
        | false ↦ filter-map p f xs
      ]

  -- the same at each item
  pub flat_map-same : (f g : A → List B) (xs : List A) → ((x : A) → f x ≡ g x) → flat_map f xs ≡ flat_map g xs
  flat_map-same f g xs h = λ i. flat_map (λ x. h x i) xs

  pub find-map : (p : B → Bool) (f : A → B) (xs : List A) → find p (map f xs) ≡ option_map f (find (λ x. p (f x)) xs)
  find-map p f [] = refl
  find-map p f (x ∷ xs) =
      elim (p (f x)) as (λ b. cond b (Some (f x)) (find p (map f xs)) ≡ option_map f (cond b (Some x) (find (λ x. p (f x)) xs))) [
        | true ↦ refl
        | false ↦ find-map p f xs
      ]

module _ {A : Type 0} where
  pub filter-filter : (p q : A → Bool) (xs : List A) → filter p (filter q xs) ≡ filter (λ x. q x && p x) xs
  filter-filter p q [] = refl
  filter-filter p q (x ∷ xs) =
      elim (q x) as (λ b. filter p (cond b (x ∷ filter q xs) (filter q xs)) ≡ cond (b && p x) (x ∷ filter (λ x. q x && p x) xs) (filter (λ x. q x && p x) xs)) [
        | true ↦ ap (λ ys. cond (p x) (x ∷ ys) ys) (filter-filter p q xs)
        | false ↦ filter-filter p q xs
      ]

  pub filter-same : (p q : A → Bool) (xs : List A) → ((x : A) → p x ≡ q x) → filter p xs ≡ filter q xs
  filter-same p q xs h = λ i. filter (λ x. h x i) xs

  -- the head of those that pass is the first that passes
  pub first-filter : (p : A → Bool) (xs : List A) → slice_get (filter p xs) 0 ≡ find p xs
  first-filter p [] = refl
  first-filter p (x ∷ xs) =
      elim (p x) as (λ b. slice_get (cond b (x ∷ filter p xs) (filter p xs)) 0 ≡ cond b (Some x) (find p xs)) [
        | true ↦ refl
        | false ↦ first-filter p xs
      ]

  -- the first that passes is the first of those that pass
  pub find-filter : (p q : A → Bool) (xs : List A) → find p (filter q xs) ≡ find (λ x. q x && p x) xs
  find-filter p q [] = refl
  find-filter p q (x ∷ xs) =
      elim (q x) as (λ b. find p (cond b (x ∷ filter q xs) (filter q xs)) ≡ cond (b && p x) (Some x) (find (λ x. q x && p x) xs)) [
        | true ↦ ap (cond (p x) (Some x)) (find-filter p q xs)
        | false ↦ find-filter p q xs
      ]

-- ---- places

pub there_is : {X : Type 0} (xs : List X) (i : ℕ) → i < length xs → (x : X) × (slice_get xs i ≡ Some x)
there_is [] i h = absurd (omega arith)
there_is (x ∷ xs) zero h = (x, refl)
there_is (x ∷ xs) (suc i) h = there_is xs i (omega arith)

pub set_same : {X : Type 0} (xs : List X) (i : ℕ) (a : X) → i < length xs → slice_get (slice_set xs i a) i ≡ Some a
set_same [] i a h = absurd (omega arith)
set_same (x ∷ xs) zero a h = refl
set_same (x ∷ xs) (suc i) a h = set_same xs i a (omega arith)

pub set_other : {X : Type 0} (xs : List X) (i k : ℕ) (a : X) → k ≢ i → slice_get (slice_set xs i a) k ≡ slice_get xs k
set_other [] i k a h = refl
set_other (x ∷ xs) zero zero a h = absurd (h refl)
set_other (x ∷ xs) zero (suc k) a h = refl
set_other (x ∷ xs) (suc i) zero a h = refl
set_other (x ∷ xs) (suc i) (suc k) a h = set_other xs i k a (λ e. h (ap suc e))

pub get_end : {X : Type 0} (xs : List X) (x : X) → slice_get (xs ++ x ∷ []) (length xs) ≡ Some x
get_end [] x = refl
get_end (y ∷ xs) x = get_end xs x

-- ---- numbers in a row

-- the first of them, and the others, where they end before n
pub range_more : (a n : ℕ) → a < n → range_with_len a (n - a) ≡ a ∷ range_with_len (a + 1) (n - (a + 1))
range_more a n below =
    let e : n - a ≡ suc (n - (a + 1)) = omega arith in
    rw e refl

-- ---- one step of a walk over a slice, of which all items or some count

-- what is left from an item on
pub rest_more : {X : Type 0} (xs : List X) (i : ℕ) (x : X) → i < length xs → x ≡ slice_index_or xs i x → drop i xs ≡ x ∷ drop (i + 1) xs
rest_more xs i x below here =
    let on : suc i ≡ i + 1 = omega arith in
    drop-cons xs i x below ∙ ap (λ y. y ∷ drop (suc i) xs) (sym here) ∙ ap (λ n. x ∷ drop n xs) on

-- at the end nothing is left
pub rest_none : {X : Type 0} (xs : List X) (i : ℕ) → length xs ≤ i → drop i xs ≡ []
rest_none xs i past = drop_all i xs past

module _ {X Y E : Type 0} (f : X → Y) (g : X → Option E) (p : X → Bool) where
  -- an item that counts
  pub kept_more : (xs : List X) (i : ℕ) (x : X) → i < length xs → x ≡ slice_index_or xs i x → p x ≡ true
      → map f (filter p (drop i xs)) ≡ f x ∷ map f (filter p (drop (i + 1) xs))
  kept_more xs i x below here kept = ap (λ l. map f (filter p l)) (rest_more xs i x below here) ∙ ap (λ b. map f (if b then x ∷ filter p (drop (i + 1) xs) else filter p (drop (i + 1) xs))) kept

  -- an item that does not
  pub passed_more : (xs : List X) (i : ℕ) (x : X) → i < length xs → x ≡ slice_index_or xs i x → p x ≡ false
      → filter p (drop i xs) ≡ filter p (drop (i + 1) xs)
  passed_more xs i x below here passed = ap (filter p) (rest_more xs i x below here) ∙ ap (λ b. if b then x ∷ filter p (drop (i + 1) xs) else filter p (drop (i + 1) xs)) passed

  -- the fault of an item that counts, then those of the others
  pub fault_here : (xs : List X) (i : ℕ) (x : X) → i < length xs → x ≡ slice_index_or xs i x → p x ≡ true
      → first_some g (filter p (drop i xs)) ≡ or_else (g x) (first_some g (filter p (drop (i + 1) xs)))
  fault_here xs i x below here kept = ap (λ l. first_some g (filter p l)) (rest_more xs i x below here) ∙ ap (λ b. first_some g (if b then x ∷ filter p (drop (i + 1) xs) else filter p (drop (i + 1) xs))) kept

-- a list for each item
pub lists_more : {X Y : Type 0} (f : X → List Y) (xs : List X) (i : ℕ) (x : X) → i < length xs → x ≡ slice_index_or xs i x
    → flat_map f (drop i xs) ≡ f x ++ flat_map f (drop (i + 1) xs)
lists_more f xs i x below here = ap (flat_map f) (rest_more xs i x below here)
