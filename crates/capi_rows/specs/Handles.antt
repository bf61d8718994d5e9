-- What a call leaves of a handle, and why it refuses.
use Rattle.capi_rows.specs.Listings.{value_by_bytes}
use Rattle.ebpf_parts.specs.declared.maps.either.Map.{Map}
use Rattle.ebpf_base.specs.Maps.{text_cmp}
use Rattle.std.specs.FinMap.{FinMap, insert}
use Rattle.std.specs.Prelude.{◌≡◌, ◌⊎◌, ⊤, ℕ, List, Option, Some, None, Result, Err, MatchBool}
use Rattle.std.specs.Prelude.{MatchResult, MatchOption}
use Rattle.capi_rows.specs.FaultNumbers.{parse_refusal}
use Rattle.capi_rows.specs.Refusals.{plain, IsReported}
use Rattle.capi_rows.specs.declared.codes.TheConstants.{CLOSED, MEMORY, DONE, NO_MAP}
use Rattle.capi_rows.specs.declared.refusal.Refusal.{Refusal}
use Rattle.capi_rows.specs.declared.refusal.ebpf_refusal.{ebpf_refusal}
use Rattle.ebpf_object.specs.declared.object.Object.{Object}
use Rattle.ebpf_parts.specs.Memory.{is_parse_memory}
use Rattle.ebpf_parts.specs.declared.error.ParseError.{ParseError}

-- the refusal for lack of memory, or for an error that stands
abbrev pub IsRefusal : {E : Type 0} → (E → Type 0) → (E → Refusal) → Refusal → Type 0
IsRefusal {E = E} Stands refusal r = (r ≡ plain MEMORY) ⊎ ((e : E) × Stands e × (r ≡ refusal e))

-- the refusal of this fault of parsing, or out of memory
abbrev pub CannotParse : Option ParseError → Refusal → Type 0
CannotParse fault = IsRefusal (λ e. MatchBool (is_parse_memory e) ⊤ (fault ≡ Some e)) parse_refusal

-- the refusal of what an open handle holds; a closed one is refused as such
abbrev pub WhyHeld : {H : Type 0} → Option H → (H → Refusal → Type 0) → Refusal → Type 0
WhyHeld None Why r = r ≡ plain CLOSED
WhyHeld (Some h) Why r = Why h r

-- what is found of what a handle holds, or why not; a closed one is refused as such
abbrev pub FindsHeld : {X : Type 0} → (Object → X → Type 0) → (Object → Refusal → Type 0)
    → Option Object → Result X Refusal → Type 0
FindsHeld Finds Why None found = found ≡ Err (plain CLOSED)
FindsHeld Finds Why (Some o) found = MatchResult found (Finds o) (Why o)

-- an open handle holds something else than before
abbrev pub Changes : {H : Type 0} → (H → H → Type 0) → Option H → Option H → Type 0
Changes Change None after = ⊥
Changes Change (Some old) None = ⊥
Changes Change (Some old) (Some new) = Change old new

-- a call refuses for a reason: the handle is as it was, and C is told
pub record IsRefused {H : Type 0} (Why : Refusal → Type 0) (answer : ℕ) (before after : Option H)
    (about_before about_after : List ℕ) (report : ebpf_refusal)
    : Type 0 where
  pub stays : after ≡ before
  pub refusal : Refusal
  pub why : Why refusal
  pub reported : IsReported refusal answer about_before about_after report

-- the map of a name is another one, or no map has the name
abbrev pub IsSet : (Map → Map) → List ℕ → FinMap text_cmp Map → ℕ → FinMap text_cmp Map → Type 0
IsSet set name before number after =
    MatchOption (value_by_bytes before name) ((number ≡ NO_MAP) × (after ≡ before)) (λ m.
    (number ≡ DONE) × (after ≡ insert before name (set m)))
