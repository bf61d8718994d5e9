-- A table of faults lists, in order, each fault that a call looks for and its error. The first
-- fault that holds is the error of the call, unless memory is out.
use Rattle.std.specs.Prelude.{◌≡◌, Bool, List, [], ◌∷◌, ⊤, Option, Some, None, Result, Ok, Err}
use Rattle.std.specs.Prelude.{MatchBool, if◌then◌else◌, ◌<◌, ℕ, true, false, slice_get}
use Rattle.std.specs.List.{flat_map}

-- a row of a table of faults: whether the fault holds, and its error
abbrev pub Row : Type 0 → Type 0
Row E = Bool × E

-- the error of the first row that holds
abbrev pub first_of : {E : Type 0} → List (Bool × E) → Option E
first_of [] = None
first_of (row ∷ rows) = if row.0 then Some row.1 else first_of rows

-- the first error, or the second where the first is none
abbrev pub or_else : {E : Type 0} → Option E → Option E → Option E
or_else None next = next
or_else (Some e) next = Some e

-- the first error of several tables, one after the other
abbrev pub first_in : {E : Type 0} → List (List (Bool × E)) → Option E
first_in [] = None
first_in (rows ∷ stages) = or_else (first_of rows) (first_in stages)

-- the first fault that the members of a list have
abbrev pub first_some : {A E : Type 0} → (A → Option E) → List A → Option E
first_some f [] = None
first_some f (x ∷ xs) = or_else (f x) (first_some f xs)

-- the error of a result
abbrev pub fault_of : {X E : Type 0} → Result X E → Option E
fault_of (Ok x) = None
fault_of (Err e) = Some e

-- The result is the stated one, or an error of memory (`memory` says which errors are of memory).
abbrev pub Gives : {X E : Type 0} → (E → Bool) → Result X E → Result X E → Type 0
Gives memory (Ok x) stated = stated ≡ Ok x
Gives memory (Err e) stated = MatchBool (memory e) ⊤ (stated ≡ Err e)

-- The result is an error exactly where there is this fault, and then this one; or it is an error of
-- memory.
abbrev pub Refuses : {X E : Type 0} → (E → Bool) → Result X E → Option E → Type 0
Refuses memory (Ok x) fault = fault ≡ None
Refuses memory (Err e) fault = MatchBool (memory e) ⊤ (fault ≡ Some e)

-- ---- the first fault of a table, as a relation

-- all rows of some tables, in order
abbrev pub rows_of : {E : Type 0} → List (List (Bool × E)) → List (Bool × E)
rows_of stages = flat_map (λ stage. stage) stages

-- the error is the error of a row that holds, and no row before it holds
pub record IsFirstFault {E : Type 0} (table : List (Bool × E)) (error : E) : Type 0 where
  pub index : ℕ
  pub stands : slice_get table index ≡ Some (true, error)
  pub none_before : (k : ℕ) (row : Bool × E) → k < index → slice_get table k ≡ Some row
      → row.0 ≡ false

-- no row holds
pub record IsClear {E : Type 0} (table : List (Bool × E)) : Type 0 where
  pub none : (k : ℕ) (row : Bool × E) → slice_get table k ≡ Some row → row.0 ≡ false

-- ---- the next step

-- the next step with the value of a result, or the error of the result
abbrev pub if_ok : {A X E : Type 0} → Result A E → (A → Result X E) → Result X E
if_ok (Ok x) next = next x
if_ok (Err e) next = Err e
