-- Functions by their numbers.
use Rattle.std.specs.Prelude.{ℕ, ◌+◌, ◌<◌, ◌≤◌, ◌==◌, if◌then◌else◌, List, [], ◌∷◌, Option, Some}
use Rattle.std.specs.Prelude.{None, slice_get, Vec, All}
use Rattle.std.specs.Coded.{×_prop, Unit-prop, le_prop}
use Rattle.std.specs.declared.alloc.Global.{Global}
use Rattle.ebpf_linker.specs.declared.body.Body.{Body}
use Rattle.ebpf_linker.specs.declared.reference.Fault.{Fault}
use Rattle.ebpf_linker.specs.declared.reference.Fault.TheVariants.{FunctionInfoMismatch}
use Rattle.ebpf_linker.specs.declared.reference.Fault.TheVariants.{ProgramTooLong, InvalidLineInfo}
use Rattle.ebpf_linker.specs.declared.reference.Target.{Target}
use Rattle.ebpf_linker.specs.declared.reference.Target.TheVariants.{Function, Nowhere}
use Rattle.ebpf_linker.specs.declared.reference.Reference.{Reference}
use Rattle.ebpf_linker.specs.Functions.{SlotReference, Nothing, Faulty, Names, FunctionContent}
use Rattle.ebpf_linker.specs.Functions.{Functions}

abbrev pub of_target : Target → SlotReference ℕ Fault
of_target (Function k) = Names k
of_target (Nowhere e) = Faulty e

-- what a slot refers to, by the references of its function
abbrev pub referred : List Reference → ℕ → SlotReference ℕ Fault
referred [] x = Nothing
referred (c ∷ cs) x = if c.slot == x then of_target c.target else referred cs x

abbrev pub calls_or_empty : Option (Vec Reference Global) → List Reference
calls_or_empty None = []
calls_or_empty (Some v) = v.items

-- the references of function k
abbrev pub calls_at : List (Vec Reference Global) → ℕ → List Reference
calls_at C k = calls_or_empty (slice_get C k)

abbrev pub body_content : Body → FunctionContent
body_content b =
    record { slots = b.slots.now; func_info = b.func_info.now; line_info = b.line_info.now }

abbrev pub option_content : Option Body → Option FunctionContent
option_content None = None
option_content (Some b) = Some (body_content b)

-- functions by their numbers, with these bodies and these references
abbrev pub functions_by_number : List Body → List (Vec Reference Global) → Functions ℕ Fault
functions_by_number B C = record {
  content = λ k. option_content (slice_get B k);
  reference = λ k x. referred (calls_at C k) x;
  mismatch = λ k. FunctionInfoMismatch k;
  too_long = λ k. ProgramTooLong k;
  stray_line = λ k. InvalidLineInfo k;
}

-- slots from low on, each above the one before
abbrev pub Rises : ℕ → List Reference → Type 0
Rises low [] = Unit {0}
Rises low (c ∷ cs) = (low ≤ c.slot) × Rises (c.slot + 1) cs

pub Rises-prop : (low : ℕ) (cs : List Reference) → IsProp (Rises low cs)
Rises-prop low [] = Unit-prop
Rises-prop low (c ∷ cs) = ×_prop le_prop (Rises-prop (c.slot + 1) cs)

-- a target is one of n functions
abbrev pub IsWithin : ℕ → Target → Type 0
IsWithin n (Function k) = k < n
IsWithin n (Nowhere e) = Unit {0}

pub IsWithin-prop : (n : ℕ) (t : Target) → IsProp (IsWithin n t)
IsWithin-prop n (Function k) = le_prop
IsWithin-prop n (Nowhere e) = Unit-prop

-- the references of each function rise, and lead to one of n functions
pub record Sound (n : ℕ) (C : List (Vec Reference Global)) : Type 0 where
  pub rises : (k : ℕ) → Rises 0 (calls_at C k)
  pub within : (k : ℕ) → All (λ c. IsWithin n c.target) (calls_at C k)
