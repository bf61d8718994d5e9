-- Records in the order of their slots, and how many of them stand at some slots.
use Rattle.std.proofs.Common.{◌≡◌, ℕ, zero, suc, ◌+◌, ◌-◌, ◌≤◌, Bool, true, false, List, [], ◌∷◌, length, filter, take, drop, refl, sym, ap, ◌∙◌, arith, Some, subst, slice_get, cond, ◌++◌, map, Option, None}
use Rattle.std.specs.Prelude.{◌==◌, unwrap_or}
use Rattle.std.specs.Cmp.{both_ways, IsTotalOrder, eq_by_cmp_equiv}
use Rattle.std.specs.List.Sorted.{IsStrictlySortedBy}
use Rattle.std.proofs.lemmas.Bool.Decides.{nat_tests}
use Rattle.std.proofs.lemmas.List.Elements.{filter_agree}
use Rattle.std.specs.declared.cmp.Ordering.{Ordering}
use Rattle.std.specs.declared.cmp.Ordering.TheVariants.{Less, Equal, Greater}
use Rattle.std.specs.FinMap.{FinMap, IsAntisymmetric, entries, empty, insert, put, entries-insert}
use Rattle.std.specs.FinMap.Entries.{by_order}
use Rattle.std.specs.List.{AllByRecursion, find, flat_map}
use Rattle.std.specs.Map.{keys_of}
use Rattle.std.specs.Ordering.{eq_by_cmp}
use Rattle.ebpf_base.proofs.Maps.{entries-empty, entries_rise}
use Rattle.ebpf_base.specs.Maps.{put_all}
use Rattle.ebpf_limits.specs.OwnedBytes.{total, name_bytes}
use Rattle.ebpf_parsing.proofs.InOrder.{begin_in_order, part_among}
use Rattle.ebpf_parsing.specs.Records.{RowsBeginAt, is_among_slots}

length_part : {X : Type 0} (n k : ℕ) (xs : List X) → n + k ≤ length xs → length (take k (drop n xs)) ≡ k
length_part zero zero xs within = refl
length_part zero (suc k) [] within = absurd (omega arith)
length_part zero (suc k) (x ∷ xs) within = ap suc (length_part zero k xs (omega arith))
length_part (suc n) k [] within = absurd (omega arith)
length_part (suc n) k (x ∷ xs) within = length_part n k xs (omega arith)

module _ {X : Type 0} (slot : X → ℕ) where
  -- those of some slots stand between where their first slot's begin and where the next slot's begin
  pub between : (first count : ℕ) (xs : List X) (i j : ℕ) → RowsBeginAt slot first xs i → RowsBeginAt slot (first + count) xs j → i ≤ length xs → j ≤ length xs → i ≤ j
  between first count xs i j low high a b = begin_in_order slot first (first + count) xs i j low high (omega arith) a

  pub count_between : (first count : ℕ) (xs : List X) (i j : ℕ) → RowsBeginAt slot first xs i → RowsBeginAt slot (first + count) xs j → i ≤ length xs → j ≤ length xs
      → j - i ≡ length (filter (is_among_slots slot first count) xs)
  count_between first count xs i j low high a b =
      let up = between first count xs i j low high a b in
      sym (length_part i (j - i) xs (omega arith)) ∙ ap length (part_among slot first count xs i j low high up b)

  one_slot : (s : ℕ) (x : X) → is_among_slots slot s 1 x ≡ (slot x == s)
  one_slot s x = both_ways _ _ (λ e. grind (arith, nat_tests)) (λ e. grind (arith, nat_tests))

  -- those of one slot
  pub of_one_slot : (s : ℕ) (xs : List X) → length (filter (is_among_slots slot s 1) xs) ≡ length (filter (λ x. slot x == s) xs)
  of_one_slot s xs = ap length (filter_agree _ _ (one_slot s) xs)

-- ---- the entries of a table, counted by things of which each has at most one entry

-- ---- a list without one of its items

-- one of some items, by its place
abbrev pub Among : {Y : Type 0} → Y → List Y → Type 0
Among y ys = (i : ℕ) × (slice_get ys i ≡ Some y)

module _ {Y : Type 0} where
  abbrev without : ℕ → List Y → List Y
  without i [] = []
  without zero (y ∷ ys) = ys
  without (suc i) (y ∷ ys) = y ∷ without i ys

  total_without : (u : Y → ℕ) (ys : List Y) (i : ℕ) (y : Y) → slice_get ys i ≡ Some y → total u ys ≡ u y + total u (without i ys)
  total_without u [] i y e = absurd (let no : ⊥ = cc in no)
  total_without u (x ∷ ys) zero y e = let same : x ≡ y = cc in ap (λ z. u z + total u ys) same
  total_without u (x ∷ ys) (suc i) y e = let rest = total_without u ys i y e in omega (arith, rest)

  stays : (ys : List Y) (i j : ℕ) (y z : Y) → slice_get ys i ≡ Some y → slice_get ys j ≡ Some z → (i ≡ j → ⊥) → Among z (without i ys)
  stays [] i j y z e f apart = absurd (let no : ⊥ = cc in no)
  stays (x ∷ ys) zero zero y z e f apart = absurd (apart refl)
  stays (x ∷ ys) zero (suc j) y z e f apart = (j, f)
  stays (x ∷ ys) (suc i) zero y z e f apart = (0, f)
  stays (x ∷ ys) (suc i) (suc j) y z e f apart = let found = stays ys i j y z e f (λ s. apart (ap suc s)) in (suc found.0, found.1)

-- ---- entries of a table

module _ {K X Y : Type 0} {R : K → K → Ordering} (o : IsTotalOrder R) (exact : IsAntisymmetric R) (key : Y → K) (w : K × X → ℕ) (u : Y → ℕ) where
  -- an entry counts no more than one of some things, which has its key
  abbrev pub Counted : List Y → K × X → Type 0
  Counted ys e = (y : Y) × Among y ys × (key y ≡ e.0) × (w e ≤ u y)

  differs : (a : K) → R a a ≡ Less → ⊥
  differs a less =
      let same : eq_by_cmp R a a ≡ true = (eq_by_cmp_equiv o).refl a in
      let other : eq_by_cmp R a a ≡ false = rw less refl in
      let no : ⊥ = cc in no

  kept : (ys : List Y) (i : ℕ) (y : Y) → slice_get ys i ≡ Some y → (es : List (K × X)) → AllByRecursion (λ k. R (key y) k ≡ Less) (keys_of es) → AllByRecursion (Counted ys) es → AllByRecursion (Counted (without i ys)) es
  kept ys i y here [] less all = tt
  kept ys i y here (e ∷ es) less all =
      let z = all.0.0 in
      let j = all.0.1.0 in
      let apart : i ≡ j → ⊥ = (λ same.
      let there : slice_get ys i ≡ Some z = subst (λ n. slice_get ys n ≡ Some z) (sym same) all.0.1.1 in
      let one : y ≡ z = cc in
      let keyed : key y ≡ e.0 = ap key one ∙ all.0.2 in
      differs e.0 (subst (λ k. R k e.0 ≡ Less) keyed less.0)) in
      ((z, stays ys i j y z here all.0.1.1 apart, all.0.2, all.0.3), kept ys i y here es less.1 all.1)

  sorted_covered : (es : List (K × X)) (ys : List Y) → IsStrictlySortedBy R (keys_of es) → AllByRecursion (Counted ys) es → total w es ≤ total u ys
  unfolding IsStrictlySortedBy
  sorted_covered [] ys rise all = omega arith
  sorted_covered (e ∷ es) ys rise all =
      let y = all.0.0 in
      let i = all.0.1.0 in
      let less : AllByRecursion (λ k. R (key y) k ≡ Less) (keys_of es) = subst (λ a. AllByRecursion (λ k. R a k ≡ Less) (keys_of es)) (sym all.0.2) rise.0 in
      let rest : total w es ≤ total u (without i ys) = sorted_covered es (without i ys) rise.1 (kept ys i y all.0.1.1 es less all.1) in
      let whole : total u ys ≡ u y + total u (without i ys) = total_without u ys i y all.0.1.1 in
      let first : w e ≤ u y = all.0.3 in
      omega (arith, rest, whole, first)

  module _ (P : K × X → Type 0) where
    all_put : (k : K) (v : X) (es : List (K × X)) → P (k, v) → AllByRecursion P es → AllByRecursion P (put R k v es)
    all_put k v [] h all = (h, tt)
    all_put k v (e ∷ es) h all =
        elim (R k e.0) as (λ r. R k e.0 ≡ r → AllByRecursion P (by_order r ((k, v) ∷ e ∷ es) ((e.0, v) ∷ es) (e ∷ put R k v es))) [
          | Less ↦ λ t. (h, all)
          | Equal ↦ λ t. (subst (λ a. P (a, v)) (exact k e.0 t) h, all.1)
          | Greater ↦ λ t. (all.0, all_put k v es h all.1)
        ] refl

    pub all_put_all : (m : FinMap R X) (es : List (K × X)) → AllByRecursion P (entries m) → AllByRecursion P es → AllByRecursion P (entries (put_all m es))
    all_put_all m [] before all = before
    all_put_all m (e ∷ es) before all =
        all_put_all (insert m e.0 e.1) es (subst (AllByRecursion P) (sym (entries-insert o m e.0 e.1)) (all_put e.0 e.1 (entries m) all.0 before)) all.1

  -- where each entry that is put into a table counts no more than one of some things with its key, all of the table do not
  -- count more than all these things
  pub covered : (es : List (K × X)) (ys : List Y) → AllByRecursion (Counted ys) es → total w (entries (put_all {R = R} empty es)) ≤ total u ys
  covered es ys all =
      sorted_covered (entries (put_all {R = R} empty es)) ys (entries_rise (put_all {R = R} empty es))
      (all_put_all (Counted ys) empty es (subst (AllByRecursion (Counted ys)) (sym (entries-empty R X)) tt) all)

-- ---- what holds of each item of a list, and sums over lists

-- ---- each item

module _ {B : Type 0} (P : B → Type 0) where
  pub all_append : (xs ys : List B) → AllByRecursion P xs → AllByRecursion P ys → AllByRecursion P (xs ++ ys)
  all_append [] ys h k = k
  all_append (x ∷ xs) ys h k = (h.0, all_append xs ys h.1 k)

  pub all_map : {A : Type 0} (f : A → B) (xs : List A) → AllByRecursion (λ x. P (f x)) xs → AllByRecursion P (map f xs)
  all_map f [] h = tt
  all_map f (x ∷ xs) h = (h.0, all_map f xs h.1)

  pub all_flat_map : {A : Type 0} (f : A → List B) (xs : List A) → AllByRecursion (λ x. AllByRecursion P (f x)) xs → AllByRecursion P (flat_map f xs)
  all_flat_map f [] h = tt
  all_flat_map f (x ∷ xs) h = all_append (f x) (flat_map f xs) h.0 (all_flat_map f xs h.1)

  pub all_filter : (p : B → Bool) (xs : List B) → AllByRecursion (λ x. p x ≡ true → P x) xs → AllByRecursion P (filter p xs)
  all_filter p [] h = tt
  all_filter p (x ∷ xs) h = elim (p x) as (λ b. p x ≡ b → AllByRecursion P (cond b (x ∷ filter p xs) (filter p xs))) [
    | true ↦ λ passes. (h.0 passes, all_filter p xs h.1)
    | false ↦ λ fails. all_filter p xs h.1
  ] refl

  -- by its place
  pub all_of : (xs : List B) → ((x : B) → Among x xs → P x) → AllByRecursion P xs
  all_of [] h = tt
  all_of (x ∷ xs) h = (h x (0, refl), all_of xs (λ y here. h y (suc here.0, here.1)))

pub each_at : {B : Type 0} (P : B → Type 0) (xs : List B) → AllByRecursion P xs → (x : B) → Among x xs → P x
each_at P [] all x here = absurd (let e = here.1 in let no : ⊥ = cc in no)
each_at P (y ∷ xs) all x (zero, e) = let same : y ≡ x = cc in subst P same all.0
each_at P (y ∷ xs) all x (suc i, e) = each_at P xs all.1 x (i, e)

pub found_among : {B : Type 0} (p : B → Bool) (xs : List B) (x : B) → find p xs ≡ Some x → Among x xs × (p x ≡ true)
found_among p [] x e = absurd (let no : ⊥ = cc in no)
found_among p (y ∷ xs) x e = elim (p y) as (λ b. p y ≡ b → cond b (Some y) (find p xs) ≡ Some x → Among x (y ∷ xs) × (p x ≡ true)) [
  | true ↦ λ passes same. let one : y ≡ x = cc in ((0, ap Some one), subst (λ z. p z ≡ true) one passes)
  | false ↦ λ fails rest. let found = found_among p xs x rest in ((suc found.0.0, found.0.1), found.1)
] refl e

-- ---- sums

pub no_more : {A : Type 0} (f g : A → ℕ) → ((x : A) → f x ≤ g x) → (xs : List A) → total f xs ≤ total g xs
no_more f g each [] = omega arith
no_more f g each (x ∷ xs) = let first = each x in let rest = no_more f g each xs in omega (arith, first, rest)

pub total_append : {A : Type 0} (f : A → ℕ) (xs ys : List A) → total f (xs ++ ys) ≡ total f xs + total f ys
total_append f [] ys = omega arith
total_append f (x ∷ xs) ys = let rest = total_append f xs ys in omega (arith, rest)

pub total_map : {A B : Type 0} (f : B → ℕ) (g : A → B) (xs : List A) → total f (map g xs) ≡ total (λ x. f (g x)) xs
total_map f g [] = refl
total_map f g (x ∷ xs) = let rest = total_map f g xs in omega (arith, rest)

pub filter_short : {A : Type 0} (p : A → Bool) (xs : List A) → length (filter p xs) ≤ length xs
filter_short p [] = omega arith
filter_short p (x ∷ xs) = let rest = filter_short p xs in elim (p x) as (λ b. length (cond b (x ∷ filter p xs) (filter p xs)) ≤ length (x ∷ xs)) [
  | true ↦ omega (arith, rest)
  | false ↦ omega (arith, rest)
]

-- ---- names

-- a name that is empty where it can't be read
pub name_within : (file : List ℕ) (name : Option (List ℕ)) → length (unwrap_or name []) ≤ name_bytes file name
name_within file None = omega arith
name_within file (Some n) = omega arith
