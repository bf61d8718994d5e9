-- The outcomes of externs: those by the lines that were read, and resolution by the outcomes.
use Rattle.std.proofs.Common.{◌≡◌, ℕ, Bool, true, false, cond, ◌&&◌, List, [], ◌∷◌, ◌++◌, map, Option, Some, None, refl, ap, sym, ◌∙◌}
use Rattle.std.specs.FinMap.{entries, entries_sorted, from_sorted, get-entries, get-from_sorted, same_map}
use Rattle.std.specs.List.{AllByRecursion}
use Rattle.std.specs.Prelude.{not}
use Rattle.ebpf_base.proofs.Faults.{both_None}
use Rattle.ebpf_base.proofs.TextMaps.{text_exact}
use Rattle.ebpf_base.specs.Faults.{fault_of, first_some, or_else}
use Rattle.ebpf_base.specs.Maps.{text_cmp, text_total}
use Rattle.ebpf_btf.specs.TypeInfo.{TypeInfo}
use Rattle.ebpf_ksyms.proofs.Reading.{lines_fault-none}
use Rattle.ebpf_ksyms.proofs.Resolving.{IsWanted, address_known, all_wanted}
use Rattle.ebpf_ksyms.proofs.Results.{address_refusal, address_written, outcome_refusal, outcome_written}
use Rattle.ebpf_ksyms.specs.Addresses.{Item, Line, address_of, line_of_item}
use Rattle.ebpf_ksyms.specs.Externs.{Externs, NamedExtern, Outcome, is_typed, is_typeless, kernel_ids_of, left_without, name_refused, names_read, names_refused, outcome, renew, resolved_as, resolved_externs, type_refused, types_refused, wanted_names, with_address, with_outcome}
use Rattle.ebpf_ksyms.specs.Outcomes.{AreExternOutcomes, IsLineFault, NamesRefuseByOutcomes, OutcomeValue, ResultsAreWritten, TypesRefuseByOutcomes, address_result, entry_after, extern_outcomes, outcomes_with, refusal_of, result_by, typed_outcomes, typed_refusal, typed_result, untyped_refusal, with_result}
use Rattle.ebpf_ksyms.specs.PrivateContracts.{AreRead, KnownAddresses, StopsAt, known_at, only_at, untyped_by, value_named}
use Rattle.ebpf_ksyms.specs.declared.error.KsymsError.{KsymsError}
use Rattle.ebpf_ksyms.specs.declared.extern_outcome.ExternResult.{ExternResult}
use Rattle.ebpf_ksyms.specs.declared.extern_outcome.ExternResult.TheVariants.{Kept, Untyped}
use Rattle.ebpf_ksyms.specs.declared.named.NameTable.{NameTable}
use Rattle.ebpf_model.specs.declared.symbol.ExternDesc.{ExternDesc}

-- ---- the outcomes by the addresses that the lines gave

module _ (local : TypeInfo) (kernel : Option TypeInfo) (lines : List Line) (names : List (List ℕ)) (known : KnownAddresses) (tells : (q : List ℕ) → known q ≡ only_at names (λ name. address_of name lines) q) where
  same_untyped : (e : NamedExtern) → IsWanted names e → cond (is_typeless e.1) (address_result e (known_at known e.0)) Kept ≡ cond (is_typeless e.1) (address_result e (address_of e.0 lines)) Kept
  same_untyped e h =
      elim (is_typeless e.1) as (λ b. is_typeless e.1 ≡ b → cond b (address_result e (known_at known e.0)) Kept ≡ cond b (address_result e (address_of e.0 lines)) Kept) [
        | true ↦ λ s. ap (address_result e) (address_known local kernel lines names known tells e h s)
        | false ↦ λ s. refl
      ] refl

  same_outcomes : (es : List NamedExtern) → AllByRecursion (IsWanted names) es → outcomes_with (result_by (kernel_ids_of kernel) (λ e. address_result e (known_at known e.0)) local kernel) es ≡ outcomes_with (result_by (kernel_ids_of kernel) (λ e. address_result e (address_of e.0 lines)) local kernel) es
  same_outcomes [] h = refl
  same_outcomes (e ∷ es) h = λ i. record { name = e.0; desc = e.1; result = cond (is_typed e.1) (typed_result (outcome local kernel e)) (same_untyped e h.0 i) } ∷ same_outcomes es h.1 i

module _ {S : Type 0} (steps : S → Option Item → S → Type 0) (source : S) (kernel : Option TypeInfo) (externs : Externs) where
  pub all_kept : (outcomes : List OutcomeValue) → outcomes ≡ outcomes_with (λ _. Kept) (entries externs) → AreExternOutcomes steps source None kernel externs outcomes
  unfolding names_read extern_outcomes
  all_kept outcomes h = record { items = []; counted = refl; read = lines_fault-none _; each = h }

  module _ (local : TypeInfo) where
    pub line_fault : (e : KsymsError) → StopsAt steps source (wanted_names (entries externs)) e → IsLineFault steps source (Some local) externs e
    unfolding names_read
    line_fault e h = record { items = h.items; item = h.item; rest = h.rest; wanted = h.wanted; came = h.came; before = h.before; refused = h.refused }

    pub all_read : (addresses : NameTable (Option ℕ)) (outcomes : List OutcomeValue) → AreRead steps source (wanted_names (entries externs)) (value_named addresses) → outcomes ≡ outcomes_with (result_by (kernel_ids_of kernel) (untyped_by (Some addresses)) local kernel) (entries externs) → AreExternOutcomes steps source (Some local) kernel externs outcomes
    unfolding names_read extern_outcomes
    all_read addresses outcomes h is = record {
      items = h.items;
      counted = h.counted;
      read = h.read;
      each = is ∙ same_outcomes local kernel (map line_of_item h.items) (wanted_names (entries externs)) (value_named addresses) h.addresses (entries externs) (all_wanted (entries externs));
    }

-- ---- resolution by the outcomes

-- one extern, by whether it is resolved and whether it has a type
module _ (o : Outcome) (e : NamedExtern) (untyped : ExternResult) where
  typed_one : (resolved typed : Bool) → cond (not resolved && typed) (fault_of o) None ≡ cond typed (refusal_of (cond (not resolved && typed) (typed_result o) (cond (not resolved && not typed) untyped Kept))) None
  typed_one true true = refl
  typed_one true false = refl
  typed_one false true = sym (outcome_refusal o)
  typed_one false false = refl

  untyped_one : (address : Option ℕ) → untyped ≡ address_result e address → (resolved typed : Bool) → cond (not resolved && not typed) (left_without address e) None ≡ cond typed None (refusal_of (cond (not resolved && typed) (typed_result o) (cond (not resolved && not typed) untyped Kept)))
  untyped_one address is true true = refl
  untyped_one address is true false = refl
  untyped_one address is false true = refl
  untyped_one address is false false = sym (ap refusal_of is ∙ address_refusal e address)

  written_one : (address : Option ℕ) → untyped ≡ address_result e address → (resolved typed : Bool) → cond (not resolved && not typed) (left_without address e) None ≡ None → cond (not resolved && typed) (with_outcome e.1 o) (cond (not resolved && not typed) (with_address e.1 address) e.1) ≡ with_result e.1 (cond (not resolved && typed) (typed_result o) (cond (not resolved && not typed) untyped Kept))
  written_one address is true true h = refl
  written_one address is true false h = refl
  written_one address is false true h = sym (outcome_written e.1 o)
  written_one address is false false h = sym (ap (with_result e.1) is ∙ address_written e address h)

-- all externs, where there are types of the object
module _ (local : TypeInfo) (kernel : Option TypeInfo) where
  typed_all : (untyped : NamedExtern → ExternResult) (es : List NamedExtern) → first_some (type_refused local kernel) es ≡ first_some typed_refusal (outcomes_with (result_by (kernel_ids_of kernel) untyped local kernel) es)
  typed_all untyped [] = refl
  typed_all untyped (e ∷ es) = λ i. or_else (typed_one (outcome local kernel e) e (untyped e) e.1.is_resolved e.1.is_typed i) (typed_all untyped es i)

  module _ (lines : List Line) where
    untyped_all : (es : List NamedExtern) → first_some (name_refused lines) es ≡ first_some untyped_refusal (outcomes_with (result_by (kernel_ids_of kernel) (λ e. address_result e (address_of e.0 lines)) local kernel) es)
    untyped_all [] = refl
    untyped_all (e ∷ es) = λ i. or_else (untyped_one (outcome local kernel e) e (address_result e (address_of e.0 lines)) (address_of e.0 lines) refl e.1.is_resolved e.1.is_typed i) (untyped_all es i)

    written_all : (es : List NamedExtern) → first_some (name_refused lines) es ≡ None → map (λ e. (e.0, resolved_as local kernel lines e)) es ≡ map entry_after (outcomes_with (result_by (kernel_ids_of kernel) (λ e. address_result e (address_of e.0 lines)) local kernel) es)
    written_all [] h = refl
    written_all (e ∷ es) h =
        let none : (name_refused lines e ≡ None) × (first_some (name_refused lines) es ≡ None) = both_None (name_refused lines e) (first_some (name_refused lines) es) h in
        λ i. (e.0, written_one (outcome local kernel e) e (address_result e (address_of e.0 lines)) (address_of e.0 lines) refl e.1.is_resolved e.1.is_typed none.0 i) ∷ written_all es none.1 i

-- all externs, where there are none
kept_typed : (es : List NamedExtern) → None ≡ first_some typed_refusal (outcomes_with (λ _. Kept) es)
kept_typed [] = refl
kept_typed (e ∷ es) =
    elim e.1.is_typed as (λ b. None ≡ or_else (cond b None None) (first_some typed_refusal (outcomes_with (λ _. Kept) es))) [ true ↦ kept_typed es | false ↦ kept_typed es ]

kept_untyped : (es : List NamedExtern) → None ≡ first_some untyped_refusal (outcomes_with (λ _. Kept) es)
kept_untyped [] = refl
kept_untyped (e ∷ es) =
    elim e.1.is_typed as (λ b. None ≡ or_else (cond b None None) (first_some untyped_refusal (outcomes_with (λ _. Kept) es))) [ true ↦ kept_untyped es | false ↦ kept_untyped es ]

kept_written : (es : List NamedExtern) → es ≡ map entry_after (outcomes_with (λ _. Kept) es)
kept_written [] = refl
kept_written (e ∷ es) = ap (λ rest. e ∷ rest) (kept_written es)

from_entries_of : (externs : Externs) → externs ≡ from_sorted (entries externs)
from_entries_of externs = same_map text_total text_exact _ _ (λ q. get-entries externs q ∙ sym (get-from_sorted text_cmp (entries externs) q (entries_sorted externs)))

pub types_refuse : TypesRefuseByOutcomes
unfolding types_refused typed_outcomes extern_outcomes
types_refuse None kernel externs = (kept_typed (entries externs), λ lines. kept_typed (entries externs))
types_refuse (Some local) kernel externs = (typed_all local kernel (λ _. Untyped) (entries externs), λ lines. typed_all local kernel (λ e. address_result e (address_of e.0 lines)) (entries externs))

pub names_refuse : NamesRefuseByOutcomes
unfolding names_refused extern_outcomes
names_refuse None kernel lines externs = kept_untyped (entries externs)
names_refuse (Some local) kernel lines externs = untyped_all local kernel lines (entries externs)

pub results_are_written : ResultsAreWritten
unfolding names_refused resolved_externs renew extern_outcomes
results_are_written None kernel lines externs h = from_entries_of externs ∙ ap (λ es. from_sorted {R = text_cmp} es) (kept_written (entries externs))
results_are_written (Some local) kernel lines externs h = ap (λ es. from_sorted {R = text_cmp} es) (written_all local kernel lines (entries externs) h)
