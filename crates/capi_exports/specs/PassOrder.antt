-- Passes over what a handle holds: each at most once, in their order, and what is set of an object
-- before the first.
use Rattle.std.specs.Prelude.{◌≡◌, ℕ, ◌==◌, Option, Some, None, option_map, MatchOption}
use Rattle.std.specs.Prelude.{if◌then◌else◌, nat_lt}
use Rattle.capi_exports.specs.declared.held.Held.{Held}
use Rattle.capi_exports.specs.declared.held.Pass.{Pass}
use Rattle.capi_exports.specs.declared.held.Pass.TheVariants.{Types, Maps, Resolution, Externs}
use Rattle.capi_exports.specs.declared.held.Pass.TheVariants.{Calls}
use Rattle.capi_rows.specs.Refusals.{plain}
use Rattle.capi_rows.specs.declared.codes.TheConstants.{CLOSED, PASS_MADE, PASS_ORDER}
use Rattle.capi_rows.specs.declared.refusal.Refusal.{Refusal}
use Rattle.ebpf_object.specs.declared.object.Object.{Object}

-- the place of a pass in their order
abbrev pub rank : Pass → ℕ
rank Types = 1
rank Maps = 2
rank Resolution = 3
rank Externs = 4
rank Calls = 5

-- why a pass can't be made after the last one that was made: it is the same, or comes before it
abbrev pub fault_of_pass : Option Pass → Pass → Option ℕ
fault_of_pass None pass = None
fault_of_pass (Some last) pass =
    if rank pass == rank last then Some PASS_MADE
    else (if nat_lt (rank pass) (rank last) then Some PASS_ORDER else None)

-- why nothing can be set after the last pass that was made
abbrev pub fault_of_setting : Option Pass → Option ℕ
fault_of_setting None = None
fault_of_setting (Some last) = Some PASS_ORDER

-- ---- what a handle holds

-- an object of which no pass was made
abbrev pub opened : Object → Held
opened o = record { object = o; last = None }

abbrev pub object_in : Option Held → Option Object
object_in held = option_map (λ h. h.object) held

-- ---- what a call does to it

-- passes were made, the first and the last of these, which might be made then
pub record HasPassed (first made : Pass) (Change : Object → Object → Type 0) (old new : Held)
    : Type 0 where
  pub allowed : fault_of_pass old.last first ≡ None
  pub change : Change old.object new.object
  pub last : new.last ≡ Some made

-- a pass that can't be made then is refused before all else
abbrev pub CannotPass : Pass → (Object → Refusal → Type 0) → Held → Refusal → Type 0
CannotPass first Why h r =
    MatchOption (fault_of_pass h.last first) (Why h.object r) (λ number. r ≡ plain number)

-- something of the object is set, of which no pass was made
pub record HasSetting (Change : Object → Object → Type 0) (old new : Held) : Type 0 where
  pub allowed : fault_of_setting old.last ≡ None
  pub change : Change old.object new.object
  pub last : new.last ≡ old.last

-- after a pass it is refused before all else
abbrev pub CannotSet : (Object → Refusal → Type 0) → Held → Refusal → Type 0
CannotSet Why h r =
    MatchOption (fault_of_setting h.last) (Why h.object r) (λ number. r ≡ plain number)

-- the same of a call that answers a number alone: what it answers and leaves of the object, where
-- no pass was made
abbrev pub Sets : (Object → ℕ → Object → Type 0) → Held → ℕ → Held → Type 0
Sets Setting old number new =
    MatchOption (fault_of_setting old.last)
    (Setting old.object number new.object × (new.last ≡ old.last))
    (λ refused. (number ≡ refused) × (new ≡ old))

-- what a call answers and leaves of a handle; a closed one stays closed
abbrev pub OfHandle : (Held → ℕ → Held → Type 0) → Option Held → ℕ → Option Held → Type 0
OfHandle Leaves None number after = (number ≡ CLOSED) × (after ≡ None)
OfHandle Leaves (Some old) number after =
    (new : Held) × Leaves old number new × (after ≡ Some new)
