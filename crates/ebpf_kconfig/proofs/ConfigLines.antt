-- The lines of a text, one by one.
use Rattle.std.proofs.Common.{◌≡◌, ℕ, ◌+◌, ◌≤◌, Bool, true, false, cond, List, [], ◌∷◌, length, take, drop, Some, None, refl, ap, ◌∙◌, arith}
use Rattle.std.specs.Prelude.{nat_lt, ◌==◌}
use Rattle.std.specs.List.{position, position_or_len, slice_split, onto_first}
use Rattle.std.proofs.lemmas.Bool.{ltb-true, ltb-false}
use Rattle.std.proofs.lemmas.List.Splits.{slice_split_first, slice_split-cons_no}
use Rattle.ebpf_base.specs.Faults.{first_some, or_else}
use Rattle.ebpf_base.proofs.Faults.{or_else-None}
use Rattle.ebpf_kconfig.specs.ConfiguredValues.{given_in_line, setting}

module _ {X : Type 0} (p : X → Bool) where
  -- one part, where none passes
  one_part : (xs : List X) → length xs ≤ position_or_len p xs → slice_split p xs ≡ xs ∷ []
  one_part [] past = refl
  one_part (x ∷ xs) past = by_test (p x) refl (one_part xs)
    where
      by_test : (b : Bool) → p x ≡ b → (length xs ≤ position_or_len p xs → slice_split p xs ≡ xs ∷ []) → slice_split p (x ∷ xs) ≡ (x ∷ xs) ∷ []
      by_test true e others = absurd (omega (arith, rw e at past))
      by_test false e others =
          let rest : length xs ≤ position_or_len p xs = omega (arith, rw e at past) in
          slice_split-cons_no p x xs e ∙ ap (onto_first x) (others rest)

  -- what stands before the first that passes, and the parts of what follows it
  first_part : (xs : List X) (n : ℕ) → position p xs ≡ Some n → slice_split p xs ≡ take n xs ∷ slice_split p (drop (n + 1) xs)
  first_part [] n found = cc
  first_part (x ∷ xs) n found = by_test (nat_lt (position_or_len p (x ∷ xs)) (length (x ∷ xs))) refl found
    where
      by_test : (b : Bool) → nat_lt (position_or_len p (x ∷ xs)) (length (x ∷ xs)) ≡ b → cond b (Some (position_or_len p (x ∷ xs))) None ≡ Some n
          → slice_split p (x ∷ xs) ≡ take n (x ∷ xs) ∷ slice_split p (drop (n + 1) (x ∷ xs))
      by_test true e at =
          let is : position_or_len p (x ∷ xs) ≡ n = cc in
          slice_split_first p (x ∷ xs) x (ltb-true _ _ e) ∙ ap (λ k. take k (x ∷ xs) ∷ slice_split p (drop (k + 1) (x ∷ xs))) is
      by_test false e at = cc

  no_place : (xs : List X) → position p xs ≡ None → length xs ≤ position_or_len p xs
  no_place xs none = by_test (nat_lt (position_or_len p xs) (length xs)) refl none
    where
      by_test : (b : Bool) → nat_lt (position_or_len p xs) (length xs) ≡ b → cond b (Some (position_or_len p xs)) None ≡ None → length xs ≤ position_or_len p xs
      by_test true e at = cc
      by_test false e at = ltb-false _ _ e

-- what the first line gives a name, or else what the others give it
pub setting_more : (name text : List ℕ) (n : ℕ) → position (λ b. b == 10) text ≡ Some n
    → setting text name ≡ or_else (given_in_line name (take n text)) (setting (drop (n + 1) text) name)
setting_more name text n found = ap (first_some (given_in_line name)) (first_part (λ b. b == 10) text n found)

-- what the last line gives it
pub setting_last : (name text : List ℕ) → position (λ b. b == 10) text ≡ None → setting text name ≡ given_in_line name text
setting_last name text none = ap (first_some (given_in_line name)) (one_part (λ b. b == 10) text (no_place (λ b. b == 10) text none)) ∙ or_else-None (given_in_line name text)
