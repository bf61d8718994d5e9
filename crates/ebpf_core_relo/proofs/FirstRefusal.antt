-- What records come to, list by list and by place, and the first of them that is refused.
use Rattle.std.proofs.Common.{◌≡◌, ℕ, zero, suc, ◌+◌, List, [], ◌∷◌, ◌++◌, take, drop, Option, Result, refl, sym, ap, ◌∙◌, append_assoc, slice_get, Some, None, Ok, Err, subst}
use Rattle.std.specs.Prelude.{option_map, ◌≢◌, is_some}
use Rattle.std.proofs.lemmas.List.Sums.{fold-append}
use Rattle.std.specs.FinMap.{empty, get}
use Rattle.ebpf_btf_ext.specs.declared.relocation.Relocation.{Relocation}
use Rattle.ebpf_core.specs.declared.error.RelocationError.{RelocationError}
use Rattle.ebpf_base.proofs.Faults.{first_some-append}
use Rattle.ebpf_base.specs.Faults.{fault_of, first_some, or_else, if_ok}
use Rattle.ebpf_btf.specs.Next.{if_some}
use Rattle.ebpf_btf.specs.Strings.{text_at}
use Rattle.ebpf_btf.specs.declared.error.BtfError.{BtfError}
use Rattle.ebpf_core.specs.Searches.{outcome_of, Sides}
use Rattle.ebpf_core.specs.declared.outcome.Outcome.{Outcome}
use Rattle.ebpf_core_candidates.proofs.Refusals.{by_test, ok_parts, same_ok}
use Rattle.ebpf_elf.specs.declared.section.SectionIndex.{SectionIndex}
use Rattle.ebpf_core.specs.declared.error.RelocationError.TheVariants as errors
use Rattle.ebpf_core_relo.specs.RecordOutcomes.{OutcomesAreInOrder, Named, applied, left_after, left_by, named_in, named_records, outcome_after, outcome_in, outcomes_from, section_number_at, slots_left, FirstRefusalIsTheFault, HaveRecords, SlotsAreTheSame, refusal, refusal_in, name_or_unnamed, unless, outcome_result, record_result, record_slots, result_in}
use Rattle.ebpf_core_relo.specs.Records.{RelocationInputs, Written, error_in_section, all_applied, answer_in_section, named_applied, record_applied, records_applied, section_applied, unnamed_section}
use Rattle.ebpf_core_relo.specs.declared.outcomes.RecordOutcome.{RecordOutcome}
use Rattle.ebpf_core_relo.specs.declared.outcomes.RecordResult.{RecordResult}
use Rattle.ebpf_core_relo.specs.declared.outcomes.RecordSlot.{RecordSlot}
use Rattle.ebpf_core_relo.proofs.RecordRuns.{applied_puts}
use Rattle.ebpf_core_relo.specs.declared.error.BtfRelocationError.{BtfRelocationError}

pub outcomes-append : (inputs : RelocationInputs) (so_far : Written) (xs ys : List Named)
    → outcomes_from inputs so_far (xs ++ ys) ≡ outcomes_from inputs so_far xs ++ outcomes_from inputs (slots_left inputs so_far xs) ys
outcomes-append inputs so_far [] ys = refl
outcomes-append inputs so_far (x ∷ xs) ys = ap (λ rows. outcome_after inputs so_far x ∷ rows) (outcomes-append inputs (left_after inputs so_far x) xs ys)

pub slots-append : (inputs : RelocationInputs) (so_far : Written) (xs ys : List Named) → slots_left inputs so_far (xs ++ ys) ≡ slots_left inputs (slots_left inputs so_far xs) ys
slots-append inputs so_far xs ys = fold-append (left_after inputs) so_far xs ys

-- ---- one record more

module _ (inputs from : RelocationInputs) (same : from ≡ inputs) (name : ℕ) (section : Result ℕ RelocationError) (found : section ≡ section_number_at inputs.sides.local inputs.section_infos name)
    (rs : List Relocation) (i : ℕ) (r : Relocation) (here : drop i rs ≡ r ∷ drop (i + 1) rs) (so_far left : Written)
    (written : left ≡ left_by so_far (applied from section so_far r)) where
  abbrev later : List Named
  later = named_in name (drop (i + 1) rs)

  left_is : left ≡ left_after inputs so_far (name, r)
  left_is =
      written
      ∙ ap (λ (world : RelocationInputs). left_by so_far (applied world section so_far r)) same
      ∙ ap (λ s. left_by so_far (applied inputs s so_far r)) found

  row_is : outcome_in from name section so_far r ≡ outcome_after inputs so_far (name, r)
  unfolding outcome_after
  row_is = ap (λ (world : RelocationInputs). outcome_in world name section so_far r) same ∙ ap (λ s. outcome_in inputs name s so_far r) found

  pub record_more : (rows more : List RecordOutcome) → more ≡ rows ++ outcome_in from name section so_far r ∷ []
      → more ++ outcomes_from inputs left later ≡ rows ++ outcomes_from inputs so_far (named_in name (drop i rs))
  record_more rows more pushed =
      ap (λ all. all ++ outcomes_from inputs left later) pushed
      ∙ append_assoc rows (outcome_in from name section so_far r ∷ []) (outcomes_from inputs left later)
      ∙ ap (λ m. rows ++ (outcome_in from name section so_far r ∷ outcomes_from inputs m later)) left_is
      ∙ ap (λ row. rows ++ (row ∷ outcomes_from inputs (left_after inputs so_far (name, r)) later)) row_is
      ∙ ap (λ all. rows ++ outcomes_from inputs so_far (named_in name all)) (sym here)

  pub slots_more : slots_left inputs left later ≡ slots_left inputs so_far (named_in name (drop i rs))
  slots_more =
      ap (λ m. slots_left inputs m later) left_is
      ∙ ap (λ all. slots_left inputs so_far (named_in name all)) (sym here)

-- ---- one section more

module _ (inputs from : RelocationInputs) (same : from ≡ inputs) (parts : List (ℕ × List Relocation)) (i : ℕ) (part : ℕ × List Relocation) (here : drop i parts ≡ part ∷ drop (i + 1) parts)
    (rs : List Relocation) (items : rs ≡ part.1) (so_far left : Written) (written : left ≡ slots_left from so_far (named_in part.0 rs)) where
  abbrev rest : List Named
  rest = named_records (drop (i + 1) parts)

  abbrev own : List Named
  own = named_in part.0 part.1

  left_here : left ≡ slots_left inputs so_far own
  left_here =
      written
      ∙ ap (λ (world : RelocationInputs). slots_left world so_far (named_in part.0 rs)) same
      ∙ ap (λ xs. slots_left inputs so_far (named_in part.0 xs)) items

  rows_here : outcomes_from from so_far (named_in part.0 rs) ≡ outcomes_from inputs so_far own
  rows_here = ap (λ (world : RelocationInputs). outcomes_from world so_far (named_in part.0 rs)) same ∙ ap (λ xs. outcomes_from inputs so_far (named_in part.0 xs)) items

  pub section_more : (rows more : List RecordOutcome) → more ≡ rows ++ outcomes_from from so_far (named_in part.0 rs)
      → more ++ outcomes_from inputs left rest ≡ rows ++ outcomes_from inputs so_far (named_records (drop i parts))
  section_more rows more with_span =
      ap (λ all. all ++ outcomes_from inputs left rest) (with_span ∙ ap (λ xs. rows ++ xs) rows_here)
      ∙ append_assoc rows (outcomes_from inputs so_far own) (outcomes_from inputs left rest)
      ∙ ap (λ m. rows ++ (outcomes_from inputs so_far own ++ outcomes_from inputs m rest)) left_here
      ∙ ap (λ all. rows ++ all) (sym (outcomes-append inputs so_far own rest))
      ∙ ap (λ all. rows ++ outcomes_from inputs so_far (named_records all)) (sym here)

  pub section_slots_more : slots_left inputs left rest ≡ slots_left inputs so_far (named_records (drop i parts))
  section_slots_more =
      ap (λ m. slots_left inputs m rest) left_here
      ∙ sym (slots-append inputs so_far own rest)
      ∙ ap (λ all. slots_left inputs so_far (named_records all)) (sym here)

-- ---- one row, by its parts

pub same_row : (name number : ℕ) (a b : Option RecordSlot) (r s : RecordResult) → a ≡ b → r ≡ s
    → ◌≡◌ {A = RecordOutcome} (record { section_name = name; number = number; slot = a; result = r }) (record { section_name = name; number = number; slot = b; result = s })
same_row name number a b r s slots results =
    ap (λ (o : Option RecordSlot). let row : RecordOutcome = record { section_name = name; number = number; slot = o; result = r } in row) slots
    ∙ ap (λ (t : RecordResult). let row : RecordOutcome = record { section_name = name; number = number; slot = b; result = t } in row) results

-- ---- by place

at_place : (inputs : RelocationInputs) (so_far : Written) (records : List Named) (k : ℕ)
    → slice_get (outcomes_from inputs so_far records) k ≡ option_map (λ named. outcome_after inputs (slots_left inputs so_far (take k records)) named) (slice_get records k)
at_place inputs so_far [] k = refl
at_place inputs so_far (x ∷ records) zero = refl
at_place inputs so_far (x ∷ records) (suc k) = at_place inputs (left_after inputs so_far x) records k

pub in_order : OutcomesAreInOrder
in_order inputs parts k = at_place inputs empty (named_records parts) k

-- ---- the first record that is refused, and the fault of all records at once

-- what is first refused of some records, and what they leave
abbrev first : RelocationInputs → Written → List Named → Option BtfRelocationError
first inputs so_far records = first_some (refusal inputs) (outcomes_from inputs so_far records)

abbrev stated : RelocationInputs → Written → List Named → Result Written BtfRelocationError
stated inputs so_far records = unless (first inputs so_far records) (slots_left inputs so_far records)

-- ---- one record

-- an outcome is no refusal
not_refused : (sides : Sides) (name : List ℕ) (r : Relocation) (outcome : Outcome) → refusal_in name (outcome_result sides r outcome) ≡ None
not_refused sides name r outcome = by_test (λ (x : RecordResult). refusal_in name x ≡ None) (is_some outcome.value) _ _ (λ is. refl) (λ is. refl)

module _ (inputs : RelocationInputs) (offset : ℕ) (name : List ℕ) (named : name_or_unnamed offset (text_at inputs.sides.local.strings offset) ≡ name) where
  abbrev section : Result ℕ RelocationError
  section = section_number_at inputs.sides.local inputs.section_infos offset

  refusal_is : (so_far : Written) (r : Relocation) (s : Result ℕ RelocationError) → section ≡ s
      → refusal inputs (outcome_after inputs so_far (offset, r)) ≡ refusal_in name (result_in inputs s so_far r)
  unfolding outcome_after
  refusal_is so_far r s found =
      ap (λ n. refusal_in n (result_in inputs section so_far r)) named
      ∙ ap (λ t. refusal_in name (result_in inputs t so_far r)) found

  -- where the section is found, a record is refused where it can't be applied
  by_applied : (number : ℕ) (so_far : Written) (r : Relocation) (a : Result Written RelocationError) → record_applied inputs number so_far r ≡ a
      → refusal_in name (record_result inputs.sides r (if_ok a (λ left. outcome_of inputs.sides.local inputs.sides.target r))) ≡ fault_of (answer_in_section name a)
  by_applied number so_far r (Ok next) is =
      let p = applied_puts inputs number so_far next r is in
      ap (λ o. refusal_in name (record_result inputs.sides r o)) p.found ∙ not_refused inputs.sides name r p.outcome
  by_applied number so_far r (Err fault) is = refl

  -- ---- the records of a section

  -- one record, and then some others
  abbrev all_spans : List Relocation → Option BtfRelocationError → Written → Result Written BtfRelocationError
  all_spans rs fault left = unless (or_else fault (first inputs left (named_in offset rs))) (slots_left inputs left (named_in offset rs))

  in_records : (number : ℕ) → section ≡ Ok number → (rs : List Relocation) (so_far : Written)
      → answer_in_section name (records_applied inputs number rs so_far) ≡ stated inputs so_far (named_in offset rs)
  in_records number found [] so_far = refl
  in_records number found (r ∷ rs) so_far = by_record (record_applied inputs number so_far r) refl (λ next. in_records number found rs next)
    where
      by_case : ((next : Written) → answer_in_section name (records_applied inputs number rs next) ≡ stated inputs next (named_in offset rs))
          → (b : Result Written RelocationError) → answer_in_section name (if_ok b (records_applied inputs number rs)) ≡ all_spans rs (fault_of (answer_in_section name b)) (left_by so_far b)
      by_case later (Ok next) = later next
      by_case later (Err fault) = refl

      by_record : (a : Result Written RelocationError) → record_applied inputs number so_far r ≡ a
          → ((next : Written) → answer_in_section name (records_applied inputs number rs next) ≡ stated inputs next (named_in offset rs))
          → answer_in_section name (if_ok a (records_applied inputs number rs)) ≡ stated inputs so_far (named_in offset (r ∷ rs))
      by_record a is later =
          by_case later a
          ∙ sym (ap (λ b. all_spans rs (fault_of (answer_in_section name b)) (left_by so_far b)) is)
          ∙ sym (ap (λ f. all_spans rs f (left_by so_far (record_applied inputs number so_far r))) (refusal_is so_far r (Ok number) found ∙ by_applied number so_far r _ refl))
          ∙ sym (ap (λ s. all_spans rs (refusal inputs (outcome_after inputs so_far (offset, r))) (left_by so_far (applied inputs s so_far r))) found)

  -- where it is not, the first record is refused
  in_none : (fault : RelocationError) → section ≡ Err fault → (rs : List Relocation) (so_far : Written) → rs ≢ []
      → Err (error_in_section name fault) ≡ stated inputs so_far (named_in offset rs)
  in_none fault found [] so_far some = absurd (some refl)
  in_none fault found (r ∷ rs) so_far some =
      sym (ap (λ f. all_spans rs f (left_after inputs so_far (offset, r))) (refusal_is so_far r (Err fault) found))

-- ---- the part of a section

-- a part, and then the others
abbrev by_name : RelocationInputs → ℕ × List Relocation → Written → Result (List ℕ) BtfError → Result Written BtfRelocationError
by_name inputs part so_far t =
    elim t [
      | Ok name ↦ answer_in_section name (section_applied inputs name part.1 so_far)
      | Err e ↦ answer_in_section (unnamed_section part.0) (Err (errors.BtfError e))
    ]

abbrev by_section : RelocationInputs → List ℕ → ℕ × List Relocation → Written → Option SectionIndex → Result Written BtfRelocationError
by_section inputs name part so_far o = answer_in_section name (if_some o (λ section. records_applied inputs section.0 part.1 so_far) (Err errors.SectionNotFound))

-- where a part is refused it has records
part_stated : (inputs : RelocationInputs) (part : ℕ × List Relocation) (so_far : Written)
    → ((fault : BtfRelocationError) → named_applied inputs part so_far ≡ Err fault → part.1 ≢ [])
    → named_applied inputs part so_far ≡ stated inputs so_far (named_in part.0 part.1)
unfolding section_number_at
part_stated inputs part so_far some = by_text (text_at inputs.sides.local.strings part.0) refl
  where
    by_text : (t : Result (List ℕ) BtfError) → text_at inputs.sides.local.strings part.0 ≡ t → by_name inputs part so_far t ≡ stated inputs so_far (named_in part.0 part.1)
    by_text (Err e) is =
        in_none inputs part.0 (unnamed_section part.0) (ap (name_or_unnamed part.0) is) (errors.BtfError e) (rw is refl) part.1 so_far
        (some _ (ap (by_name inputs part so_far) is))
    by_text (Ok name) is = by_number (get inputs.section_infos name) refl
      where
        by_number : (o : Option SectionIndex) → get inputs.section_infos name ≡ o → by_section inputs name part so_far o ≡ stated inputs so_far (named_in part.0 part.1)
        by_number None there =
            in_none inputs part.0 name (ap (name_or_unnamed part.0) is) errors.SectionNotFound (rw (is, there) refl) part.1 so_far
            (some _ (ap (by_name inputs part so_far) is ∙ ap (by_section inputs name part so_far) there))
        by_number (Some number) there = in_records inputs part.0 name (ap (name_or_unnamed part.0) is) number.0 (rw (is, there) refl) part.1 so_far

-- ---- all parts

module _ (inputs : RelocationInputs) (part : ℕ × List Relocation) (parts : List (ℕ × List Relocation)) (so_far : Written) where
  abbrev here : List Named
  here = named_in part.0 part.1

  abbrev behind : List Named
  behind = named_records parts

  both : stated inputs so_far (here ++ behind)
      ≡ unless (or_else (first inputs so_far here) (first inputs (slots_left inputs so_far here) behind)) (slots_left inputs (slots_left inputs so_far here) behind)
  both =
      ap (λ rows. unless (first_some (refusal inputs) rows) (slots_left inputs so_far (here ++ behind))) (outcomes-append inputs so_far here behind)
      ∙ ap (λ f. unless f (slots_left inputs so_far (here ++ behind))) (first_some-append (refusal inputs) (outcomes_from inputs so_far here) (outcomes_from inputs (slots_left inputs so_far here) behind))
      ∙ ap (unless (or_else (first inputs so_far here) (first inputs (slots_left inputs so_far here) behind))) (slots-append inputs so_far here behind)

  onward : (fault : Option BtfRelocationError) (left : Written)
      → ((next : Written) → unless fault left ≡ Ok next → all_applied inputs parts next ≡ stated inputs next behind)
      → if_ok (unless fault left) (all_applied inputs parts) ≡ unless (or_else fault (first inputs left behind)) (slots_left inputs left behind)
  onward None left more = more left refl
  onward (Some e) left more = refl

  one_more : named_applied inputs part so_far ≡ stated inputs so_far here
      → ((next : Written) → named_applied inputs part so_far ≡ Ok next → all_applied inputs parts next ≡ stated inputs next behind)
      → if_ok (named_applied inputs part so_far) (all_applied inputs parts) ≡ stated inputs so_far (here ++ behind)
  one_more is more =
      ap (λ r. if_ok r (all_applied inputs parts)) is
      ∙ onward (first inputs so_far here) (slots_left inputs so_far here) (λ next e. more next (is ∙ e))
      ∙ sym both

all_stated : (inputs : RelocationInputs) (parts : List (ℕ × List Relocation)) (so_far : Written) → HaveRecords parts → all_applied inputs parts so_far ≡ stated inputs so_far (named_records parts)
all_stated inputs [] so_far have = refl
all_stated inputs (part ∷ parts) so_far have =
    one_more inputs part parts so_far (part_stated inputs part so_far (λ fault e. have 0 part refl)) (λ next e. all_stated inputs parts next (λ n p at. have (suc n) p at))

pub first_refusal : FirstRefusalIsTheFault
first_refusal inputs parts have = all_stated inputs parts empty have

no_fault : (left : Written) (fault : BtfRelocationError) → ◌≡◌ {A = Result Written BtfRelocationError} (Ok left) (Err fault) → ⊥
no_fault left fault e = cc

all_left : (inputs : RelocationInputs) (parts : List (ℕ × List Relocation)) (so_far left : Written) → all_applied inputs parts so_far ≡ Ok left
    → all_applied inputs parts so_far ≡ stated inputs so_far (named_records parts)
all_left inputs [] so_far left e = refl
all_left inputs (part ∷ parts) so_far left e =
    let (next, applied, rest) = ok_parts (named_applied inputs part so_far) (all_applied inputs parts) left e in
    one_more inputs part parts so_far (part_stated inputs part so_far (λ fault f. absurd (no_fault next fault (sym applied ∙ f))))
    (λ other f. all_left inputs parts other left (subst (λ m. all_applied inputs parts m ≡ Ok left) (same_ok _ _ (sym applied ∙ f)) rest))

unless_ok : (fault : Option BtfRelocationError) (left so_far : Written) → unless fault left ≡ Ok so_far → (left ≡ so_far) × (fault ≡ None)
unless_ok None left so_far e = (same_ok _ _ e, refl)
unless_ok (Some f) left so_far e = cc

pub same_slots : SlotsAreTheSame
same_slots inputs parts so_far e = unless_ok (first inputs empty (named_records parts)) (record_slots inputs parts) so_far (sym (all_left inputs parts empty so_far e) ∙ e)
