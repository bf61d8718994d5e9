-- What stands before the first zero.
use Rattle.std.proofs.Common.{◌≡◌, ◌≤◌, ℕ, Bool, true, false, cond, List, length, take, Some, None, refl, sym, ap, arith}
use Rattle.std.proofs.lemmas.Bool.Decides.{nat_tests}
use Rattle.std.proofs.lemmas.List.{take_all}
use Rattle.std.specs.List.{before_first, position, position_or_len}
use Rattle.std.specs.Prelude.{◌==◌, nat_lt}

-- ---- what stands before the first zero, by its place

module _ (bytes : List ℕ) where
  abbrev place : ℕ
  place = position_or_len (λ b. b == 0) bytes

  pub before_place : (at : ℕ) → position (λ b. b == 0) bytes ≡ Some at → take at bytes ≡ before_first (λ b. b == 0) bytes
  before_place at is = by_test (nat_lt place (length bytes)) is
    where
      by_test : (t : Bool) → cond t (Some place) None ≡ Some at → take at bytes ≡ take place bytes
      by_test true is = let same : place ≡ at = cc in ap (λ n. take n bytes) (sym same)
      by_test false is = absurd (cc)

  pub before_none : position (λ b. b == 0) bytes ≡ None → bytes ≡ before_first (λ b. b == 0) bytes
  before_none is = by_test (nat_lt place (length bytes)) refl is
    where
      by_test : (t : Bool) → nat_lt place (length bytes) ≡ t → cond t (Some place) None ≡ None → bytes ≡ take place bytes
      by_test true below is = absurd (cc)
      by_test false below is = let past : length bytes ≤ place = grind (arith, nat_tests, below) in sym (take_all place bytes past)
