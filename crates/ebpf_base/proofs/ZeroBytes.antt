-- Where the zero byte that ends a text stands, among all bytes or among the first of them.
use Rattle.std.proofs.Common.{◌≡◌, ◌≢◌, ◌+◌, ◌<◌, ◌≤◌, min, ℕ, zero, suc, Bool, true, false, not, cond, List, [], ◌∷◌, length, take, nat_lt, Option, Some, None, refl, ap, ◌∙◌, arith, ⊎_elim}
use Rattle.std.specs.Prelude.{◌==◌, option_map}
use Rattle.std.specs.List.{position, prefix_len}
use Rattle.std.specs.Str.{bytes_eq}
use Rattle.std.proofs.lemmas.Bool.{cases_lt}
use Rattle.std.proofs.lemmas.Bool.Decides.{nat_tests}
use Rattle.std.proofs.lemmas.List.{length-take}
use Rattle.std.proofs.lemmas.Slice.Eq.{bytes_eq-Decides}

-- how many bytes stand before it
abbrev pub front : List ℕ → ℕ
front xs = prefix_len (λ b. not (b == 0)) xs

-- these
abbrev pub bytes_before : List ℕ → Option (List ℕ)
bytes_before xs = option_map (λ n. take n xs) (position (λ b. b == 0) xs)

pub front_take : (k : ℕ) (xs : List ℕ) → front (take k xs) ≡ min k (front xs)
front_take zero xs = omega arith
front_take (suc k) [] = omega arith
front_take (suc k) (x ∷ xs) = by_first (not (x == 0)) (front_take k xs)
  where
    by_first : (b : Bool) → front (take k xs) ≡ min k (front xs) → cond b (1 + front (take k xs)) 0 ≡ min (suc k) (cond b (1 + front xs) 0)
    by_first true rest = omega arith
    by_first false rest = omega arith

take_again : (n k : ℕ) (xs : List ℕ) → n ≤ k → take n (take k xs) ≡ take n xs
take_again zero k xs le = refl
take_again (suc n) zero xs le = absurd (omega arith)
take_again (suc n) (suc k) [] le = refl
take_again (suc n) (suc k) (x ∷ xs) le = ap (λ ys. x ∷ ys) (take_again n k xs (omega arith))

same_test : (a b c d : ℕ) → (a < b → c < d) → (c < d → a < b) → nat_lt a b ≡ nat_lt c d
same_test a b c d there back = ⊎_elim
    (λ (less : a < b). let more = there less in grind (arith, nat_tests))
    (λ (over : b ≤ a). ⊎_elim (λ (less : c < d). let no = back less in absurd (omega arith)) (λ (above : d ≤ c). grind (arith, nat_tests)) (cases_lt c d))
    (cases_lt a b)

-- the zero byte is among the first k
pub near : (k : ℕ) (xs : List ℕ) → front xs < k → bytes_before (take k xs) ≡ bytes_before xs
near k xs less =
    let same : front (take k xs) ≡ front xs = omega (arith, front_take k xs) in
    let test : nat_lt (front (take k xs)) (length (take k xs)) ≡ nat_lt (front xs) (length xs) =
    same_test _ _ _ _ (λ a. omega (arith, length-take k xs)) (λ a. omega (arith, length-take k xs)) in
    let part : take (front (take k xs)) (take k xs) ≡ take (front xs) xs = ap (λ n. take n (take k xs)) same ∙ take_again (front xs) k xs (omega arith) in
    by_test (nat_lt (front (take k xs)) (length (take k xs))) (nat_lt (front xs) (length xs)) test part
  where
    by_test : (b c : Bool) → b ≡ c → take (front (take k xs)) (take k xs) ≡ take (front xs) xs
        → option_map (λ n. take n (take k xs)) (cond b (Some (front (take k xs))) None) ≡ option_map (λ n. take n xs) (cond c (Some (front xs)) None)
    by_test true true e part = ap Some part
    by_test true false e part = cc
    by_test false true e part = cc
    by_test false false e part = refl

-- it is further away
pub far : (k : ℕ) (xs : List ℕ) → k ≤ front xs → bytes_before (take k xs) ≡ None
far k xs more =
    let over : nat_lt (front (take k xs)) (length (take k xs)) ≡ false =
    let a = front_take k xs in let b = length-take k xs in let c : length (take k xs) ≤ front (take k xs) = omega arith in grind (arith, nat_tests) in
    rw over refl

-- bytes that differ are told apart
pub no_same : (xs ys : List ℕ) → xs ≢ ys → bytes_eq xs ys ≡ false
no_same xs ys differ = by_answer (bytes_eq xs ys) (bytes_eq-Decides xs ys).0
  where
    by_answer : (b : Bool) → (b ≡ true → xs ≡ ys) → b ≡ false
    by_answer true same = absurd (differ (same refl))
    by_answer false same = refl
