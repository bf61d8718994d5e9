-- The order of what is known of registers.
use Rattle.std.proofs.Common.{◌≡◌, ◌≢◌, ℕ, zero, suc, ◌<◌, ◌≤◌, ◌⊎◌, Bool, cond, List, [], ◌∷◌, length, Option, Some, None, refl, sym, ap, ◌∙◌, subst, inl, inr, arith, set, get_or, length-set, get_or-set_same, get_or-set_other, true, false, Result, Ok, Err, eqb}
use Rattle.std.proofs.lemmas.List.{set_past}
use Rattle.std.proofs.lemmas.Bool.Decides.{eqb_tells, leb_tells, nat_tests}
use Rattle.std.specs.Prelude.{OnOk}
use Rattle.std.specs.Option.{option_eq}
use lib.Pointwise.{pointwise, pointwise_decides}
use Rattle.ebpf_reachability.specs.Effects.{IsBelow, known, learned, forgotten, called}
use Rattle.ebpf_reachability.specs.PrivateContracts.{common, commons, least_upper_bound}
use Rattle.ebpf_reachability.specs.Reached.{numbers_known}
use Rattle.ebpf_reachability.specs.declared.registers.Registers.{Registers}

-- what y tells, x tells too
abbrev pub Tells : {A : Type 0} → Option A → Option A → Type 0
Tells {A} x y = (n : A) → y ≡ Some n → x ≡ Some n

pub below_itself : (a : Registers) → IsBelow a a
below_itself a = record { as_many = refl; numbers = λ r n h. h }

pub below_through : (a b c : Registers) → IsBelow a b → IsBelow b c → IsBelow a c
below_through a b c p q = record { as_many = p.as_many ∙ q.as_many; numbers = λ r n h. p.numbers r n (q.numbers r n h) }

-- one element is written, or none where there is no such place
pub read_written : (xs : List (Option ℕ)) (r q : ℕ) (x : Option ℕ) → ((q ≡ r) × (r < length xs) × (get_or (set xs r x) q None ≡ x)) ⊎ (((q ≢ r) ⊎ (length xs ≤ r)) × (get_or (set xs r x) q None ≡ get_or xs q None))
read_written xs r q x =
    elim (eqb_tells q r) [
      | inl same ↦ elim (leb_tells (length xs) r) [
        | inl past ↦ inr (inr past.1, ap (λ (u : List (Option ℕ)). get_or u q None) (set_past xs r x past.1))
        | inr within ↦ inl (same.1, within.1, let P : ℕ → Type 0 = λ u. get_or (set xs r x) u None ≡ x in subst P (sym same.1) (get_or-set_same xs r x None within.1))
      ]
      | inr other ↦ inr (inl other.1, get_or-set_other xs r q x None other.1)
    ]

learned_tells : (xs ys : List (Option ℕ)) (r : ℕ) (x y : Option ℕ) → length xs ≡ length ys → Tells x y → (q n : ℕ) → (get_or ys q None ≡ Some n → get_or xs q None ≡ Some n) → get_or (set ys r y) q None ≡ Some n → get_or (set xs r x) q None ≡ Some n
learned_tells xs ys r x y same t q n below h =
    elim (read_written ys r q y) [
      | inl there ↦ elim (read_written xs r q x) [
        | inl here ↦ here.2 ∙ t n (sym there.2 ∙ h)
        | inr other ↦ elim other.0 [ inl apart ↦ absurd (apart there.0) | inr past ↦ absurd (omega arith) ]
      ]
      | inr there ↦ elim (read_written xs r q x) [
        | inl here ↦ elim there.0 [ inl apart ↦ absurd (apart here.0) | inr past ↦ absurd (omega arith) ]
        | inr other ↦ other.1 ∙ below (sym there.1 ∙ h)
      ]
    ]

pub learned_below : (a b : Registers) (r : ℕ) (x y : Option ℕ) → IsBelow a b → Tells x y → IsBelow (learned a r x) (learned b r y)
learned_below a b r x y p t = record {
  as_many = length-set a.numbers r x ∙ (p.as_many ∙ sym (length-set b.numbers r y));
  numbers = λ q n h. learned_tells a.numbers b.numbers r x y p.as_many t q n (p.numbers q n) h;
}

pub forgotten_below : (a b : Registers) (r : ℕ) → IsBelow a b → IsBelow (forgotten a r) (forgotten b r)
forgotten_below a b r p = learned_below a b r None None p (λ n h. h)

pub called_below : (a b : Registers) → IsBelow a b → IsBelow (called a) (called b)
called_below a b p =
    forgotten_below _ _ 5 (forgotten_below _ _ 4 (forgotten_below _ _ 3 (forgotten_below _ _ 2 (forgotten_below _ _ 1 (forgotten_below a b 0 p)))))

common_none : (x : Option ℕ) → None ≡ common x None
common_none None = refl
common_none (Some n) = refl

-- what two lists have in common at a place
pub commons_at : (xs ys : List (Option ℕ)) (k : ℕ) → get_or (commons xs ys) k None ≡ common (get_or xs k None) (get_or ys k None)
commons_at [] ys k = refl
commons_at (x ∷ xs) [] zero = common_none x
commons_at (x ∷ xs) [] (suc k) = common_none (get_or xs k None)
commons_at (x ∷ xs) (y ∷ ys) zero = refl
commons_at (x ∷ xs) (y ∷ ys) (suc k) = commons_at xs ys k

pub commons_as_many : (xs ys : List (Option ℕ)) → length xs ≡ length ys → length (commons xs ys) ≡ length xs
commons_as_many [] ys h = refl
commons_as_many (x ∷ xs) [] h = absurd (omega arith)
commons_as_many (x ∷ xs) (y ∷ ys) h = ap suc (commons_as_many xs ys (omega arith))

common_tells : (x y : Option ℕ) (n : ℕ) → common x y ≡ Some n → (x ≡ Some n) × (y ≡ Some n)
common_tells None y n h = cc
common_tells (Some m) None n h = cc
common_tells (Some m) (Some k) n h = grind (arith, nat_tests)

common_told : (x y : Option ℕ) (n : ℕ) → x ≡ Some n → y ≡ Some n → common x y ≡ Some n
common_told None y n p q = cc
common_told (Some m) None n p q = cc
common_told (Some m) (Some k) n p q = grind (arith, nat_tests)

-- each of two paths is below their meeting
pub above_first : (a b : Registers) → length a.numbers ≡ length b.numbers → IsBelow a (least_upper_bound a b)
above_first a b h = record {
  as_many = sym (commons_as_many a.numbers b.numbers h);
  numbers = λ r n e. (common_tells (known a r) (known b r) n (sym (commons_at a.numbers b.numbers r) ∙ e)).0;
}

pub above_second : (a b : Registers) → length a.numbers ≡ length b.numbers → IsBelow b (least_upper_bound a b)
above_second a b h = record {
  as_many = sym h ∙ sym (commons_as_many a.numbers b.numbers h);
  numbers = λ r n e. (common_tells (known a r) (known b r) n (sym (commons_at a.numbers b.numbers r) ∙ e)).1;
}

-- and what both are below, the meeting is below
pub met_below : (a b c : Registers) → IsBelow a c → IsBelow b c → IsBelow (least_upper_bound a b) c
met_below a b c p q = record {
  as_many = commons_as_many a.numbers b.numbers (p.as_many ∙ sym q.as_many) ∙ p.as_many;
  numbers = λ r n e. commons_at a.numbers b.numbers r ∙ common_told (known a r) (known b r) n (p.numbers r n e) (q.numbers r n e);
}

pub known_within : (xs : List (Option ℕ)) → numbers_known xs ≤ length xs
known_within [] = omega arith
known_within (None ∷ xs) = let h = known_within xs in omega arith
known_within (Some n ∷ xs) = let h = known_within xs in omega arith

no_more_known : (xs zs : List (Option ℕ)) → (zs ≡ xs) ⊎ (numbers_known zs < numbers_known xs) → numbers_known zs ≤ numbers_known xs
no_more_known xs zs (inl same) = let e : numbers_known zs ≡ numbers_known xs = ap numbers_known same in omega arith
no_more_known xs zs (inr fewer) = omega arith

-- A meeting that changes what was known has forgotten a number. One element more, by what the rest says:
fewer_with : (x : Option ℕ) (xs zs : List (Option ℕ)) → (zs ≡ xs) ⊎ (numbers_known zs < numbers_known xs) → (x ∷ zs ≡ x ∷ xs) ⊎ (numbers_known (x ∷ zs) < numbers_known (x ∷ xs))
fewer_with x xs zs (inl same) = inl (ap (λ (u : List (Option ℕ)). x ∷ u) same)
fewer_with None xs zs (inr fewer) = inr fewer
fewer_with (Some n) xs zs (inr fewer) = inr (omega arith)

pub fewer_known : (xs ys : List (Option ℕ)) → length xs ≡ length ys → (commons xs ys ≡ xs) ⊎ (numbers_known (commons xs ys) < numbers_known xs)
fewer_known [] ys h = inl refl
fewer_known (x ∷ xs) [] h = absurd (omega arith)
fewer_known (None ∷ xs) (y ∷ ys) h = fewer_with None xs (commons xs ys) (fewer_known xs ys (omega arith))
fewer_known (Some m ∷ xs) (None ∷ ys) h =
    let fewer = no_more_known xs (commons xs ys) (fewer_known xs ys (omega arith)) in
    inr (omega arith)
fewer_known (Some m ∷ xs) (Some k ∷ ys) h =
    let rest = fewer_known xs ys (omega arith) in
    let fewer = no_more_known xs (commons xs ys) rest in
    elim (eqb_tells m k) [
      | inl same ↦ subst (λ (b : Bool). (cond b (Some m) None ∷ commons xs ys ≡ Some m ∷ xs) ⊎ (numbers_known (cond b (Some m) None ∷ commons xs ys) < numbers_known (Some m ∷ xs))) (sym same.0) (fewer_with (Some m) xs (commons xs ys) rest)
      | inr other ↦ subst (λ (b : Bool). (cond b (Some m) None ∷ commons xs ys ≡ Some m ∷ xs) ⊎ (numbers_known (cond b (Some m) None ∷ commons xs ys) < numbers_known (Some m ∷ xs))) (sym other.0) (inr (omega arith))
    ]

-- ---- what a comparison of registers tells, and what an answer tells where it is no lack of memory

same_number : (m n : ℕ) → eqb m n ≡ true → m ≡ n
same_number m n h = grind (arith, nat_tests)

equal_number : (m n : ℕ) → m ≡ n → eqb m n ≡ true
equal_number m n h = grind (arith, nat_tests)

option_decides : (x y : Option ℕ) → (option_eq eqb x y ≡ true → x ≡ y) × (x ≡ y → option_eq eqb x y ≡ true)
option_decides None None = (λ h. refl, λ h. refl)
option_decides None (Some n) = (λ h. cc, λ h. cc)
option_decides (Some m) None = (λ h. cc, λ h. cc)
option_decides (Some m) (Some n) = (λ h. ap Some (same_number m n h), λ h. equal_number m n (let e : Some m ≡ Some n = h in cc))

pub registers_same : (a b : Registers) → true ≡ pointwise (option_eq eqb) a.numbers b.numbers → a ≡ b
registers_same a b h =
    let make : List (Option ℕ) → Registers = λ numbers. record { numbers = numbers } in
    ap make ((pointwise_decides option_decides a.numbers b.numbers).0 (sym h))

pub registers_apart : (a b : Registers) → false ≡ pointwise (option_eq eqb) a.numbers b.numbers → a ≢ b
registers_apart a b h e =
    let t : pointwise (option_eq eqb) a.numbers b.numbers ≡ true = (pointwise_decides option_decides a.numbers b.numbers).1 (ap (λ (u : Registers). u.numbers) e) in
    cc

pub on_ok_both : {T E P Q R : Type 0} (r : Result T E) → OnOk r P → OnOk r Q → (P → Q → R) → OnOk r R
on_ok_both (Ok x) p q f = f p q
on_ok_both (Err e) p q f = tt
