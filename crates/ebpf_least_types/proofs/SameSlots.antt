-- Records with the same outcomes write the same slots.
use Rattle.std.proofs.Common.{◌≡◌, ◌-◌, ◌/◌, ℕ, false, List, [], ◌∷◌, Option, Some, None, refl, ap}
use Rattle.std.proofs.lemmas.List.Elements.{All-head, All-tail}
use Rattle.std.specs.Prelude.{All, Result, Ok, Err}
use Rattle.std.specs.FinMap.{FinMap, empty, get, insert}
use Rattle.ebpf_base.specs.Faults.{if_ok}
use Rattle.ebpf_base.specs.Maps.{key_cmp, text_cmp}
use Rattle.ebpf_btf.specs.Next.{if_some}
use Rattle.ebpf_btf.specs.Strings.{text_at}
use Rattle.ebpf_btf.specs.TypeInfo.{TypeInfo}
use Rattle.ebpf_btf_ext.specs.ExtReading.{ExtInfo}
use Rattle.ebpf_btf_ext.specs.declared.relocation.Relocation.{Relocation}
use Rattle.ebpf_core.specs.Searches.{outcome_of}
use Rattle.ebpf_core.specs.declared.error.RelocationError.{RelocationError}
use Rattle.ebpf_core.specs.declared.error.RelocationError.TheVariants.{BtfError, FunctionNotFound, SectionNotFound}
use Rattle.ebpf_core.specs.declared.outcome.Outcome.{Outcome}
use Rattle.ebpf_core_relo.specs.Carried.{written}
use Rattle.ebpf_core_relo.specs.Records.{RelocationInputs, Written, all_applied, answer_in_section, named_applied, put_outcome, record_applied, records_applied, relocation_inputs_between, slots_so_far, unnamed_section}
use Rattle.ebpf_core_relo.specs.Spans.{span_at, spans_of}
use Rattle.ebpf_elf.specs.declared.section.SectionIndex.{SectionIndex}
use Rattle.ebpf_least_types.specs.LeastTypes.{AskForNoId, HasSameOutcome, HaveOutcomesBySection, SlotsAreAlike, asks_for_kernel_id, records_with}
use Rattle.ebpf_model.specs.declared.function.Function.{Function}
use Rattle.ebpf_object.specs.WrittenSlots.{relocated_slots_by}
use Rattle.ebpf_object.specs.declared.object.Object.{Object}

module _ (local kernel types : TypeInfo) (functions : FinMap key_cmp Function) (infos : FinMap text_cmp SectionIndex) where
  abbrev over : TypeInfo → RelocationInputs
  over target = relocation_inputs_between local target functions infos

  -- a record, applied with an outcome
  abbrev applied_with : ℕ → Written → Relocation → Result Outcome RelocationError → Result Written RelocationError
  applied_with section so_far r answer =
      if_some (span_at r.insn_off (spans_of functions section)) (λ span.
      if_ok answer (λ outcome.
      if_ok (written r.number (slots_so_far functions so_far (section, span.address)) ((r.insn_off - span.start) / 8) outcome) (λ slots.
      Ok (insert so_far (section, span.address) slots))))
      (Err FunctionNotFound)

  record_alike : (section : ℕ) (so_far : Written) (r : Relocation) → outcome_of local types r ≡ outcome_of local kernel r
      → record_applied (over types) section so_far r ≡ record_applied (over kernel) section so_far r
  unfolding record_applied put_outcome
  record_alike section so_far r same = ap (applied_with section so_far r) same

  records_alike : (section : ℕ) (rs : List Relocation) (so_far : Written) → All (HasSameOutcome local kernel types) rs
      → All (λ r. asks_for_kernel_id r ≡ false) rs
      → records_applied (over types) section rs so_far ≡ records_applied (over kernel) section rs so_far
  records_alike section [] so_far same none = refl
  records_alike section (r ∷ rs) so_far same none =
      λ i. if_ok (record_alike section so_far r ((All-head (HasSameOutcome local kernel types) r rs same).same (All-head (λ r. asks_for_kernel_id r ≡ false) r rs none)) i)
      (λ next. records_alike section rs next (All-tail (HasSameOutcome local kernel types) r rs same) (All-tail (λ r. asks_for_kernel_id r ≡ false) r rs none) i)

  named_alike : (part : ℕ × List Relocation) (so_far : Written) → All (HasSameOutcome local kernel types) part.1
      → All (λ r. asks_for_kernel_id r ≡ false) part.1
      → named_applied (over types) part so_far ≡ named_applied (over kernel) part so_far
  named_alike part so_far same none =
      λ i. elim (text_at local.strings part.0) [
        | Ok name ↦ answer_in_section name (if_some (get infos name) (λ section. records_alike section.0 part.1 so_far same none i) (Err SectionNotFound))
        | Err e ↦ answer_in_section (unnamed_section part.0) (Err (BtfError e))
      ]

  all_alike : (parts : List (ℕ × List Relocation)) (so_far : Written) → HaveOutcomesBySection local kernel types parts → AskForNoId parts
      → all_applied (over types) parts so_far ≡ all_applied (over kernel) parts so_far
  all_alike [] so_far same none = refl
  all_alike (part ∷ parts) so_far same none =
      λ i. if_ok (named_alike part so_far (All-head (λ section. All (HasSameOutcome local kernel types) section.1) part parts same)
      (All-head (λ section. All (λ r. asks_for_kernel_id r ≡ false) section.1) part parts none) i)
      (λ next. all_alike parts next (All-tail (λ section. All (HasSameOutcome local kernel types) section.1) part parts same)
      (All-tail (λ section. All (λ r. asks_for_kernel_id r ≡ false) section.1) part parts none) i)

by_parts : (o : Object) (kernel types : TypeInfo) (btf : Option TypeInfo) (ext : Option ExtInfo)
    → ((local : TypeInfo) → btf ≡ Some local → HaveOutcomesBySection local kernel types (records_with btf ext))
    → AskForNoId (records_with btf ext)
    → relocated_slots_by o types btf ext ≡ relocated_slots_by o kernel btf ext
by_parts o kernel types None ext same none = refl
by_parts o kernel types (Some local) None same none = refl
by_parts o kernel types (Some local) (Some ext) same none =
    all_alike local kernel types o.functions o.section_infos ext.relocations empty (same local refl) none

pub slots_are_alike : SlotsAreAlike
slots_are_alike o kernel types alike none = by_parts o kernel types o.btf o.btf_ext (λ local is. alike.same local is) none
