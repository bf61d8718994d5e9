-- The reasons for which all programs of an object break on a kernel.
use Rattle.std.specs.Prelude.{ℕ, ◌==◌, Bool, true, false, not, ◌&&◌, List, [], ◌∷◌, ◌++◌, length}
use Rattle.std.specs.Prelude.{map}
use Rattle.std.specs.Prelude.{Option, Some, None, slice_get, if◌then◌else◌}
use Rattle.std.specs.List.{filter_map, list_any, range_with_len}
use Rattle.std.specs.Option.{option_and_then}
use Rattle.ebpf_core_relo.specs.declared.outcomes.RecordOutcome.{RecordOutcome}
use Rattle.ebpf_object.specs.declared.prepare_error.PrepareError.{PrepareError}
use Rattle.ebpf_verdict.specs.Verdicts.{is_refused}
use Rattle.ebpf_verdict.specs.declared.externs.LackingExtern.{LackingExtern}
use Rattle.ebpf_verdict.specs.declared.programs.ProgramCode.{ProgramCode}
use Rattle.ebpf_verdict.specs.declared.programs.ProgramCode.TheVariants.{Linked, Refused}
use Rattle.ebpf_verdict.specs.declared.programs.ProgramVerdict.{ProgramVerdict}
use Rattle.ebpf_verdict.specs.declared.verdict.Verdict.{Verdict}
use Rattle.capi_rows.specs.Numbers.{ksyms_refusal, prepare_refusal}
use Rattle.capi_rows.specs.Records.{fault_of_result}
use Rattle.capi_rows.specs.Refusals.{name_of}
use Rattle.capi_verdict.specs.Reasons.{reason_for_all}
use Rattle.capi_verdict.specs.declared.reason.Reason.{Reason}
use Rattle.capi_verdict.specs.declared.reason.ReasonKind.TheVariants.{EmptySection, Extern, Pass}
use Rattle.capi_verdict.specs.declared.reason.ReasonKind.TheVariants.{Relocation}

-- a section of CO-RE relocations has none
abbrev pub empty_section_reasons : Bool → List Reason
empty_section_reasons false = []
empty_section_reasons true = reason_for_all EmptySection [] ∷ []

-- the kernel lacks an extern that has to be there
abbrev pub lacking_reason : LackingExtern → Reason
lacking_reason x = record (reason_for_all Extern x.name) { fault = (ksyms_refusal x.error).number }

-- a pass refuses the object, about what the refusal names
abbrev pub refusal_reasons : Option PrepareError → List Reason
refusal_reasons None = []
refusal_reasons (Some e) =
    record (reason_for_all Pass (name_of (prepare_refusal e))) {
      fault = (prepare_refusal e).number;
    } ∷ []

-- ---- CO-RE relocations that are refused, and are in no program

abbrev pub has_number : List ℕ → ℕ → Bool
has_number numbers i = list_any (λ k. k == i) numbers

abbrev pub has_refused : ProgramCode → ℕ → Bool
has_refused (Linked j) i = has_number j.refused i
has_refused (Refused e) i = false

abbrev pub is_in_program : List ProgramVerdict → ℕ → Bool
is_in_program programs i = list_any (λ p. has_refused p.code i) programs

-- a CO-RE relocation is refused; a number of the object's relocations
abbrev pub relocation_reason : ℕ → RecordOutcome → Reason
relocation_reason i row =
    record (reason_for_all Relocation []) {
      relocation = Some i;
      fault = fault_of_result row.result;
    }

module _ (records : List RecordOutcome) (programs : List ProgramVerdict) where
  abbrev pub unowned_reason : ℕ → Option Reason
  unowned_reason i =
      option_and_then (λ row.
      if is_refused row && not (is_in_program programs i) then Some (relocation_reason i row)
      else None) (slice_get records i)

  -- in the order of the relocations
  abbrev pub unowned_reasons : List Reason
  unowned_reasons = filter_map unowned_reason (range_with_len 0 (length records))

-- ---- all of them

abbrev pub object_reasons : Verdict → List Reason
object_reasons v =
    empty_section_reasons v.has_empty_section
    ++ map lacking_reason v.lacking
    ++ refusal_reasons v.refusal
    ++ unowned_reasons v.records v.programs
