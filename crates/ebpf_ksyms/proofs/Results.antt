-- Results of externs: what resolution writes by them, and why it refuses.
use Rattle.std.proofs.Common.{◌≡◌, ℕ, Bool, true, false, cond, List, [], ◌∷◌, Option, Some, None, Result, Ok, Err, refl, ap, sym, ◌∙◌}
use Rattle.std.specs.Prelude.{IfOk, if◌then◌else◌}
use Rattle.ebpf_base.specs.Faults.{Refuses, fault_of, first_some, or_else}
use Rattle.ebpf_btf.specs.TypeInfo.{TypeInfo}
use Rattle.ebpf_ksyms.proofs.Pieces.{given}
use Rattle.ebpf_ksyms.specs.Addresses.{is_ksyms_memory}
use Rattle.ebpf_ksyms.specs.Externs.{KernelIds, NamedExtern, Outcome, is_typed, left_without, outcome_by, with_address, with_outcome}
use Rattle.ebpf_ksyms.specs.Outcomes.{OutcomeValue, address_result, refusal_of, typed_result, with_result}
use Rattle.ebpf_ksyms.specs.PrivateContracts.{typed_as, typed_refused}
use Rattle.ebpf_ksyms.specs.declared.error.KsymsError.{KsymsError}
use Rattle.ebpf_ksyms.specs.declared.error.KsymsError.TheVariants.{VariableNotFound}
use Rattle.ebpf_ksyms.specs.declared.extern_outcome.ExternResult.{ExternResult}
use Rattle.ebpf_ksyms.specs.declared.extern_outcome.ExternResult.TheVariants.{Absent, Kept, Refused}
use Rattle.ebpf_model.specs.declared.symbol.ExternDesc.{ExternDesc}

-- ---- one extern with a type

pub outcome_written : (d : ExternDesc) (o : Outcome) → with_result d (typed_result o) ≡ with_outcome d o
outcome_written d (Ok (Some id)) = refl
outcome_written d (Ok None) = refl
outcome_written d (Err e) = refl

pub outcome_refusal : (o : Outcome) → refusal_of (typed_result o) ≡ fault_of o
outcome_refusal (Ok (Some id)) = refl
outcome_refusal (Ok None) = refl
outcome_refusal (Err e) = refl

written_if : (b : Bool) (d : ExternDesc) (o : Outcome) → with_result d (cond b (typed_result o) Kept) ≡ cond b (with_outcome d o) d
written_if true d o = outcome_written d o
written_if false d o = refl

refused_if : (b : Bool) (o : Outcome) → refusal_of (cond b (typed_result o) Kept) ≡ cond b (fault_of o) None
refused_if true o = outcome_refusal o
refused_if false o = refl

module _ (kernel_ids : KernelIds) (local : TypeInfo) (kernel : Option TypeInfo) where
  pub typed_written : (e : NamedExtern) → typed_as kernel_ids local kernel e ≡ (if is_typed e.1 then with_outcome e.1 (outcome_by kernel_ids local kernel e) else e.1)
  typed_written e = written_if (is_typed e.1) e.1 (outcome_by kernel_ids local kernel e)

  pub typed_refusals : (es : List NamedExtern) → first_some (typed_refused kernel_ids local kernel) es ≡ first_some (λ e. if is_typed e.1 then fault_of (outcome_by kernel_ids local kernel e) else None) es
  typed_refusals [] = refl
  typed_refusals (e ∷ es) = λ i. or_else (refused_if (is_typed e.1) (outcome_by kernel_ids local kernel e) i) (typed_refusals es i)

-- ---- one extern without a type

pub address_refusal : (e : NamedExtern) (address : Option ℕ) → refusal_of (address_result e address) ≡ left_without address e
address_refusal e (Some address) = refl
address_refusal e None = by_weak e.1.is_weak
  where
    by_weak : (b : Bool) → refusal_of (cond b Absent (Refused (VariableNotFound e.0))) ≡ cond b None (Some (VariableNotFound e.0))
    by_weak true = refl
    by_weak false = refl

-- where it is not refused
pub address_written : (e : NamedExtern) (address : Option ℕ) → left_without address e ≡ None → with_result e.1 (address_result e address) ≡ with_address e.1 address
address_written e (Some address) h = refl
address_written e None h = by_weak e.1.is_weak h
  where
    by_weak : (b : Bool) → cond b None (Some (VariableNotFound e.0)) ≡ None → with_result e.1 (cond b Absent (Refused (VariableNotFound e.0))) ≡ with_address e.1 None
    by_weak true h = refl
    by_weak false h = cc

-- ---- an entry with its result written, or its refusal

pub refuses : {X : Type 0} (r : Result X KsymsError) (fault : Option KsymsError) → fault_of r ≡ fault → Refuses is_ksyms_memory r fault
refuses (Ok x) fault h = sym h
refuses (Err e) fault h = given (is_ksyms_memory e) (sym h)

pub entry_with_address : (e : NamedExtern) (address : Option ℕ) (r : Result NamedExtern KsymsError) → IfOk r (λ x. x ≡ (e.0, with_result e.1 (address_result e address))) → fault_of r ≡ refusal_of (address_result e address) → IfOk r (λ x. x ≡ (e.0, with_address e.1 address))
entry_with_address e address (Err f) stands fault = tt
entry_with_address e address (Ok x) stands fault = stands ∙ ap (λ d. (e.0, d)) (address_written e address (sym (fault ∙ address_refusal e address)))

-- ---- the outcome of an entry with a result

abbrev pub outcome_at : NamedExtern → ExternResult → OutcomeValue
outcome_at e result = record { name = e.0; desc = e.1; result = result }
