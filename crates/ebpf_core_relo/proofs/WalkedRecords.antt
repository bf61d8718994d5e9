-- A walk over records that stops at the first fault, one record and one section more.
use Rattle.std.proofs.Common.{◌≡◌, ℕ, Bool, true, false, List, [], ◌∷◌, drop, ◌+◌, Option, Some, None, Result, Ok, Err, refl, sym, ap, ◌∙◌}
use Rattle.std.specs.Prelude.{MatchBool, ⊤}
use Rattle.std.specs.FinMap.{get}
use Rattle.ebpf_base.specs.Faults.{if_ok}
use Rattle.ebpf_btf.specs.Next.{if_some}
use Rattle.ebpf_btf.specs.Strings.{text_at}
use Rattle.ebpf_btf.specs.declared.error.BtfError.{BtfError}
use Rattle.ebpf_btf_ext.specs.declared.relocation.Relocation.{Relocation}
use Rattle.ebpf_core.specs.Answers.{is_record_memory, without_texts}
use Rattle.ebpf_core.specs.declared.error.RelocationError.{RelocationError}
use Rattle.ebpf_core.specs.declared.error.RelocationError.TheVariants as errors
use Rattle.ebpf_core_relo.specs.PrivateContracts.{IsStatedRefusal, part_applied}
use Rattle.ebpf_core_relo.specs.RecordOutcomes.{applied, name_or_unnamed, section_number_at}
use Rattle.ebpf_core_relo.specs.Records.{RelocationInputs, Written, all_applied, answer_in_section, error_in_section, is_memory_in_section, named_applied, records_applied, section_applied, unnamed_section, without_texts_at}
use Rattle.ebpf_core_relo.specs.declared.error.BtfRelocationError.{BtfRelocationError}
use Rattle.ebpf_elf.specs.declared.section.SectionIndex.{SectionIndex}

never : {X : Type 0} (b : Bool) → b ≡ true → b ≡ false → X
never true is lacks = cc
never false is lacks = cc

-- ---- the records of a section

module _ (inputs : RelocationInputs) (rest : List Relocation) (r : Relocation) (so_far : Written) where
  part_more : (section : Result ℕ RelocationError) (left : Written) → applied inputs section so_far r ≡ Ok left
      → part_applied inputs section rest left ≡ part_applied inputs section (r ∷ rest) so_far
  part_more (Ok number) left is = sym (ap (λ s. if_ok s (records_applied inputs number rest)) is)
  part_more (Err fault) left is = refl

-- the first of those that are left
module _ (inputs from : RelocationInputs) (same : from ≡ inputs) (section : Result ℕ RelocationError) (rs : List Relocation) (i : ℕ) (r : Relocation) (here : drop i rs ≡ r ∷ drop (i + 1) rs)
    (so_far : Written) where
  pub rest_applied : (left : Written) → applied from section so_far r ≡ Ok left → part_applied inputs section (drop (i + 1) rs) left ≡ part_applied inputs section (drop i rs) so_far
  rest_applied left is =
      part_more inputs (drop (i + 1) rs) r so_far section left (ap (λ (world : RelocationInputs). applied world section so_far r) (sym same) ∙ is)
      ∙ ap (λ all. part_applied inputs section all so_far) (sym here)

-- ---- a part, by the name of its section

module _ (inputs : RelocationInputs) (part : ℕ × List Relocation) (so_far : Written) where
  abbrev name : List ℕ
  name = name_or_unnamed part.0 (text_at inputs.sides.local.strings part.0)

  abbrev by_name : Result (List ℕ) BtfError → Result Written BtfRelocationError
  by_name t =
      elim t [
        | Ok name ↦ answer_in_section name (section_applied inputs name part.1 so_far)
        | Err e ↦ answer_in_section (unnamed_section part.0) (Err (errors.BtfError e))
      ]

  part_named : named_applied inputs part so_far ≡ answer_in_section name (part_applied inputs (section_number_at inputs.sides.local inputs.section_infos part.0) part.1 so_far)
  unfolding section_number_at
  part_named = by_text (text_at inputs.sides.local.strings part.0) refl
    where
      whole : Result Written BtfRelocationError
      whole = answer_in_section name (part_applied inputs (section_number_at inputs.sides.local inputs.section_infos part.0) part.1 so_far)

      by_text : (t : Result (List ℕ) BtfError) → text_at inputs.sides.local.strings part.0 ≡ t → by_name t ≡ whole
      by_text (Err e) is = rw is refl
      by_text (Ok text) is = by_number (get inputs.section_infos text) refl
        where
          by_number : (o : Option SectionIndex) → get inputs.section_infos text ≡ o
              → answer_in_section text (if_some o (λ section. records_applied inputs section.0 part.1 so_far) (Err errors.SectionNotFound)) ≡ whole
          by_number None there = rw (is, there) refl
          by_number (Some number) there = rw (is, there) refl

  module _ (section : Result ℕ RelocationError) (found : section ≡ section_number_at inputs.sides.local inputs.section_infos part.0) where
    by_section : named_applied inputs part so_far ≡ answer_in_section name (part_applied inputs section part.1 so_far)
    by_section = part_named ∙ ap (λ s. answer_in_section name (part_applied inputs s part.1 so_far)) (sym found)

    pub part_left : (left : Written) → part_applied inputs section part.1 so_far ≡ Ok left → named_applied inputs part so_far ≡ Ok left
    part_left left is = by_section ∙ ap (answer_in_section name) is

    pub part_refused : (e : RelocationError) → MatchBool (is_record_memory e) ⊤ (part_applied inputs section part.1 so_far ≡ Err (without_texts e))
        → (at : BtfRelocationError) → IsStatedRefusal at (error_in_section name (without_texts e)) → (is_record_memory e ≡ true → is_memory_in_section at ≡ true)
        → MatchBool (is_memory_in_section at) (at.section ≡ []) (named_applied inputs part so_far ≡ Err (without_texts_at at))
    part_refused e fails at refused memory = by_memory (is_record_memory e) (is_memory_in_section at) fails refused memory
      where
        by_memory : (b m : Bool) → MatchBool b ⊤ (part_applied inputs section part.1 so_far ≡ Err (without_texts e))
            → MatchBool m (at.section ≡ []) (error_in_section name (without_texts e) ≡ without_texts_at at) → (b ≡ true → m ≡ true)
            → MatchBool m (at.section ≡ []) (named_applied inputs part so_far ≡ Err (without_texts_at at))
        by_memory b true fails is memory = is
        by_memory true false fails is memory = never false (memory refl) refl
        by_memory false false fails is memory = by_section ∙ ap (answer_in_section name) fails ∙ ap (λ (f : BtfRelocationError). Err f) is

-- ---- parts

module _ (inputs from : RelocationInputs) (same : from ≡ inputs) (parts : List (ℕ × List Relocation)) (i : ℕ) (part : ℕ × List Relocation) (here : drop i parts ≡ part ∷ drop (i + 1) parts)
    (so_far : Written) where
  pub parts_applied : (left : Written) → named_applied from part so_far ≡ Ok left → all_applied inputs (drop (i + 1) parts) left ≡ all_applied inputs (drop i parts) so_far
  parts_applied left is =
      sym (ap (λ s. if_ok s (all_applied inputs (drop (i + 1) parts))) (ap (λ (world : RelocationInputs). named_applied world part so_far) (sym same) ∙ is))
      ∙ ap (λ all. all_applied inputs all so_far) (sym here)
