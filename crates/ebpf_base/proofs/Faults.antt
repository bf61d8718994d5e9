-- The first fault: of two in a row, of lists one after the other, of tables.
use Rattle.std.proofs.Common.{◌≡◌, List, [], ◌∷◌, ◌++◌, Option, Some, None, refl, sym, ap, ◌∙◌, ◌<◌, ℕ, zero, suc, Bool, true, false, arith}
use Rattle.std.specs.Prelude.{slice_get}
use Rattle.ebpf_base.specs.Faults.{first_some, or_else, first_of, first_in, IsFirstFault, IsClear, rows_of}

module _ {E : Type 0} where
  pub or_else-None : (a : Option E) → or_else a None ≡ a
  or_else-None None = refl
  or_else-None (Some e) = refl

  pub or_else-assoc : (a b c : Option E) → or_else (or_else a b) c ≡ or_else a (or_else b c)
  or_else-assoc None b c = refl
  or_else-assoc (Some e) b c = refl

  -- none of two
  pub both_None : (a b : Option E) → or_else a b ≡ None → (a ≡ None) × (b ≡ None)
  both_None None b h = (refl, h)
  both_None (Some e) b h = absurd_some h
    where
      absurd_some : {P : Type 0} → Some e ≡ None → P
      absurd_some g = cc

module _ {A E : Type 0} (f : A → Option E) where
  pub first_some-append : (xs ys : List A) → first_some f (xs ++ ys) ≡ or_else (first_some f xs) (first_some f ys)
  first_some-append [] ys = refl
  first_some-append (x ∷ xs) ys = ap (or_else (f x)) (first_some-append xs ys) ∙ sym (or_else-assoc (f x) (first_some f xs) (first_some f ys))

  -- one more at the end
  pub first_some-push : (xs : List A) (x : A) → first_some f (xs ++ x ∷ []) ≡ or_else (first_some f xs) (f x)
  first_some-push xs x = first_some-append xs (x ∷ []) ∙ ap (or_else (first_some f xs)) (or_else-None (f x))

-- ---- from the error that is computed to the first fault, as a relation

module _ {E : Type 0} where
  first_append : (xs ys : List (Bool × E)) → first_of (xs ++ ys) ≡ or_else (first_of xs) (first_of ys)
  first_append [] ys = refl
  first_append ((true, e) ∷ xs) ys = refl
  first_append ((false, e) ∷ xs) ys = first_append xs ys

  -- tables one after the other are one table
  first_flat : (stages : List (List (Bool × E))) → first_of (rows_of stages) ≡ first_in stages
  first_flat [] = refl
  first_flat (s ∷ stages) = rw (first_append s (rows_of stages), first_flat stages) refl

  test_of : Option (Bool × E) → Bool
  test_of None = false
  test_of (Some row) = row.0

  row_of_fault : Option E → Option (Bool × E)
  row_of_fault None = None
  row_of_fault (Some e) = Some (true, e)

  clear_at : (table : List (Bool × E)) (k : ℕ) (row : Bool × E) → first_of table ≡ None → slice_get table k ≡ Some row → row.0 ≡ false
  unfolding test_of
  clear_at [] k row none at = cc
  clear_at ((true, e) ∷ table) k row none at = cc
  clear_at ((false, e) ∷ table) zero row none at = sym (ap test_of at)
  clear_at ((false, e) ∷ table) (suc k) row none at = clear_at table k row none at

  first_table : (table : List (Bool × E)) (e : E) → first_of table ≡ Some e → IsFirstFault table e
  unfolding test_of row_of_fault
  first_table [] e first = cc
  first_table ((true, f) ∷ table) e first = record { index = 0; stands = ap row_of_fault first; none_before = λ k row below at. absurd (omega arith) }
  first_table ((false, f) ∷ table) e first =
      let rest = first_table table e first in
      record { index = suc rest.index; stands = rest.stands; none_before = λ k row below at. before rest k row below at }
    where
      before : (rest : IsFirstFault table e) (k : ℕ) (row : Bool × E) → k < suc rest.index → slice_get ((false, f) ∷ table) k ≡ Some row → row.0 ≡ false
      before rest zero row below at = sym (ap test_of at)
      before rest (suc k) row below at = rest.none_before k row (omega arith) at

  -- where no error is computed, no row stands
  pub clear_rows : (stages : List (List (Bool × E))) → first_in stages ≡ None → IsClear (rows_of stages)
  clear_rows stages none = record { none = λ k row at. clear_at (rows_of stages) k row (rw (first_flat stages) none) at }

  -- the error that is computed is that of the first row that stands
  pub first_row : (stages : List (List (Bool × E))) (e : E) → first_in stages ≡ Some e → IsFirstFault (rows_of stages) e
  first_row stages e first = first_table (rows_of stages) e (rw (first_flat stages) first)
