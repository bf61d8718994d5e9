-- The ways in which contracts state a result: the texts of an error that people read are left out,
-- and out of memory may replace any result.
use Rattle.std.specs.Prelude.{◌≡◌, ℕ, ◌<◌, true, List, [], ◌∷◌, ⊤, MatchBool, Some, Result, Ok, Err}
use Rattle.std.specs.Prelude.{is_ok, slice_get, if◌then◌else◌, Bool, false}
use Rattle.ebpf_base.specs.Faults.{if_ok}
use Rattle.ebpf_btf.specs.declared.error.BtfError.{BtfError}
use Rattle.ebpf_btf.specs.Memory as types
use Rattle.ebpf_core.specs.declared.error.RelocationError.{RelocationError}
use Rattle.ebpf_core.specs.declared.error.RelocationError.TheVariants as errors
use Rattle.ebpf_core.specs.declared.error.RelocationError.TheVariants.{OutOfMemory}

abbrev pub is_record_memory : RelocationError → Bool
is_record_memory OutOfMemory = true
is_record_memory _ = false

-- an error with such texts empty
abbrev pub without_texts : RelocationError → RelocationError
without_texts (errors.InvalidAccessIndex path spec index len error) =
    errors.InvalidAccessIndex [] spec index len []
without_texts (errors.InvalidRelocationKindForType number kind type_kind error) =
    errors.InvalidRelocationKindForType number [] [] []
without_texts (errors.InvalidInstruction number index error) =
    errors.InvalidInstruction number index []
without_texts e = e

-- The call answers as stated, such texts aside, or with lack of memory.
abbrev pub Tells : {X : Type 0} → Result X RelocationError → Result X RelocationError → Type 0
Tells (Ok x) stated = stated ≡ Ok x
Tells (Err e) stated = MatchBool (is_record_memory e) ⊤ (stated ≡ Err (without_texts e))

-- What holds of the stated answer holds of this one, such texts aside, unless it is a want of
-- memory.
abbrev pub TellsSo : {X : Type 0} → Result X RelocationError → (Result X RelocationError → Type 0)
    → Type 0
TellsSo (Ok x) Holds = Holds (Ok x)
TellsSo (Err e) Holds = MatchBool (is_record_memory e) ⊤ (Holds (Err (without_texts e)))

-- a fault of types as a fault of a record
abbrev pub of_type_error : BtfError → RelocationError
of_type_error e = if types.is_btf_memory e then errors.OutOfMemory else errors.BtfError e

-- an answer about types as an answer about a record
abbrev pub of_types : {X : Type 0} → Result X BtfError → Result X RelocationError
of_types (Ok x) = Ok x
of_types (Err e) = Err (errors.BtfError e)

-- the answers for all members of a list, or the first fault among them
abbrev pub each : {A X E : Type 0} → (A → Result X E) → List A → Result (List X) E
each f [] = Ok []
each f (x ∷ xs) = if_ok (f x) (λ y. if_ok (each f xs) (λ ys. Ok (y ∷ ys)))

-- The first member of a list that has a fault has this one.
pub record FirstFails {A X E : Type 0} (f : A → Result X E) (xs : List A) (fault : E) : Type 0 where
  pub n : ℕ
  pub x : A
  pub at : slice_get xs n ≡ Some x
  pub fails : f x ≡ Err fault
  pub before : (k : ℕ) (y : A) → k < n → slice_get xs k ≡ Some y → is_ok (f y) ≡ true
