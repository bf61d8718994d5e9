-- The search for functions: one step, and what it answers.
use Rattle.std.specs.Prelude.{◌≡◌, ℕ, ◌≤◌, List, ◌∷◌, take, Some, None, slice_get, Vec, Result, Ok}
use Rattle.std.specs.Prelude.{Err, ◌+◌, Bool, true, false, if◌then◌else◌, [], ◌++◌, length, map}
use Rattle.std.specs.Prelude.{Option, slice_set, slice_index_or, MatchOption}
use Rattle.std.specs.declared.alloc.Global.{Global}
use Rattle.std.specs.Bool.{MatchBool}
use Rattle.ebpf_linker.specs.Faults.{append_fault, Faultless, LeastFault, same, has_some}
use Rattle.ebpf_linker.specs.Functions.{References, Functions, Among, total, body}
use Rattle.ebpf_linker.specs.Numbered.{calls_at}
use Rattle.ebpf_linker.specs.PrivateContracts.{content_in}
use Rattle.ebpf_linker.specs.Result.{IsOrder}
use Rattle.ebpf_linker.specs.declared.body.Body.{Body}
use Rattle.ebpf_linker.specs.declared.reference.Reference.{Reference}
use Rattle.ebpf_linker.specs.declared.reference.Fault.{Fault}
use Rattle.ebpf_linker.specs.declared.reference.Fault.TheVariants.{FunctionInfoMismatch}
use Rattle.ebpf_linker.specs.declared.reference.Target.{Target}
use Rattle.ebpf_linker.specs.declared.reference.Target.TheVariants.{Function, Nowhere}
use Rattle.ebpf_linker.specs.declared.search.Frame.{Frame}

-- ---- what the search for functions answers

-- an order of functions without a fault, with which the program is not too long
pub record IsFound {K E : Type 0} (F : Functions K E) (R : References K E) (p : K) (ks : List K)
    : Type 0 where
  pub order : IsOrder R p ks
  pub faultless : Faultless F R p
  pub fits : (j : ℕ) (k : K)
      → slice_get ks j ≡ Some k
      → append_fault F k (total F (p ∷ take j ks)) ≡ None
  pub room : (k : K) → Among ks k → total F (p ∷ ks) ≤ 2147483647

abbrev pub Finds : Functions ℕ Fault → References ℕ Fault → ℕ → Result (Vec ℕ Global) Fault → Type 0
Finds F R p (Ok v) = (ks : List ℕ) × (v.items ≡ p ∷ ks) × IsFound F R p ks
Finds F R p (Err e) = LeastFault F R p e

-- ---- one step of the search for functions

-- where a reference leads, where the program p is linked
abbrev pub checked_target : List Body → ℕ → Target → Target
checked_target B p (Nowhere e) = Nowhere e
checked_target B p (Function k) =
    if same (has_some (content_in B k).func_info) (has_some (content_in B p).func_info)
    then Function k
    else Nowhere (FunctionInfoMismatch k)

abbrev pub checked_call : List Body → ℕ → Reference → Reference
checked_call B p c = record { slot = c.slot; target = checked_target B p c.target }

-- the references of function k, where the program p is linked
abbrev pub checked_calls : List Body → List (Vec Reference Global) → ℕ → ℕ → List Reference
checked_calls B C p k = map (checked_call B p) (calls_at C k)

-- the search: the functions in their order, the flags of found functions, the work list, and the
-- slots so far
pub record Search : Type 0 where
  pub order : List ℕ
  pub is_found : List Bool
  pub work_list : List Frame
  pub used : ℕ

abbrev pub search_at : List ℕ → List Bool → List Frame → ℕ → Search
search_at order is_found work_list used =
    record { order = order; is_found = is_found; work_list = work_list; used = used }

-- the reference was followed to a function that was found before
abbrev pub passed : Frame → Search → Search
passed top s = record s { work_list = s.work_list ++ record top { next = top.next + 1 } ∷ [] }

-- .. to function k, which is opened
abbrev pub opened : Functions ℕ Fault → Frame → Search → ℕ → Search
opened F top s k = record {
  order = s.order ++ k ∷ [];
  is_found = slice_set s.is_found k true;
  work_list =
      (s.work_list ++ top ∷ []) ++ record { copy = length s.order; function = k; next = 0 } ∷ [];
  used = s.used + length (body F k);
}

-- function k is opened where it can have a copy
abbrev pub Entered : Functions ℕ Fault → Frame → Search → Search → Option Fault → ℕ → Type 0
Entered F top s t r k =
    MatchOption (append_fault F k s.used) ((t ≡ opened F top s k) × (r ≡ None)) (λ e.
    (t ≡ s) × (r ≡ Some e))

-- what one step does, by the reference that is next in the function on top, which was taken off
abbrev pub StepTo : Functions ℕ Fault → Frame → Search → Search → Option Fault → Option Target
    → Type 0
StepTo F top s t r None = (t ≡ s) × (r ≡ None)
StepTo F top s t r (Some (Nowhere e)) = (t ≡ s) × (r ≡ Some e)
StepTo F top s t r (Some (Function k)) =
    MatchBool (slice_index_or s.is_found k false)
    ((t ≡ passed top s) × (r ≡ None))
    (Entered F top s t r k)

abbrev pub call_target : Option Reference → Option Target
call_target None = None
call_target (Some c) = Some c.target

abbrev pub Advanced : Functions ℕ Fault → (ℕ → List Reference) → Frame → Search → Search
    → Option Fault → Type 0
Advanced F C top s t r = StepTo F top s t r (call_target (slice_get (C top.function) top.next))
