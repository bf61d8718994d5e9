-- What the records of an object leave, one after the other.
use Rattle.std.proofs.Common.{◌≡◌, ℕ, ◌+◌, ◌-◌, ◌/◌, Bool, true, false, cond, List, length, Option, Some, None, Ok, refl, sym, ap, ◌∙◌, subst, inl, inr, ◌⊎◌, slice_get, Result, zero, suc, [], ◌∷◌, ◌++◌, map, Err, arith}
use Rattle.std.specs.Prelude.{◌≢◌, IfOk, option_map, IsSomeAnd, MatchOption, flat_map}
use Rattle.std.specs.FinMap.{get, get-insert, insert, empty, get-empty}
use Rattle.std.specs.Cmp.{eq_by_cmp_equiv}
use Rattle.std.specs.Ordering.{eq_by_cmp}
use Rattle.std.proofs.lemmas.Bool.{cases_eq}
use Rattle.std.proofs.lemmas.Option.{same_Some, slice_get_within}
use Rattle.std.proofs.lemmas.Result.{IfOk-at_ok}
use Rattle.std.proofs.lemmas.List.{map-append}
use Rattle.ebpf_base.proofs.Maps.{key_exact, is_equal}
use Rattle.ebpf_base.specs.Maps.{key_cmp, key_total}
use Rattle.ebpf_btf_ext.specs.declared.relocation.Relocation.{Relocation}
use Rattle.ebpf_core.proofs.SamePaths.{outcomes_are_of_same_paths}
use Rattle.ebpf_core_candidates.proofs.Refusals.{by_answer, by_option, ok_parts, same_ok}
use Rattle.ebpf_core.specs.Searches.{outcome_of}
use Rattle.ebpf_core.specs.declared.error.RelocationError.{RelocationError}
use Rattle.ebpf_core.specs.declared.outcome.Outcome.{Outcome}
use Rattle.ebpf_parts.specs.declared.insn.bpf_insn.{bpf_insn}
use Rattle.ebpf_model.specs.declared.function.Function.{Function}
use Rattle.ebpf_btf.specs.Next.{if_some}
use Rattle.ebpf_btf.specs.Strings.{text_at}
use Rattle.ebpf_btf.specs.declared.error.BtfError.{BtfError}
use Rattle.ebpf_elf.specs.declared.section.SectionIndex.{SectionIndex}
use Rattle.ebpf_model.specs.Walks.{KeepsShape}
use Rattle.ebpf_core.specs.declared.error.RelocationError.TheVariants as errors
use Rattle.ebpf_core_relo.proofs.OutcomeSlots.{goes_on_before, nothing_behind, written_slots_carry, written_too}
use Rattle.ebpf_core_relo.specs.RecordOutcomes.{Carries, HasSlot, Touches, goes_on, record_slot, OtherSlotsStay, PutSlotsStand, RecordsAloneAreCarried, RecordsHaveSections, RecordsHaveSlots, RecordsKeepShapes, SlotsStayAsMany, WritesAlone, records_in_section, records_with_sections, section_index_named, section_index_named_at}
use Rattle.ebpf_core_relo.specs.Carried.{written, patched_slot, CarriesAt, next_slot_written}
use Rattle.ebpf_core_relo.specs.Spans.{spans_of, span_at}
use Rattle.ebpf_core_relo.specs.Records.{RelocationInputs, Written, own_slots, put_outcome, record_applied, slots_so_far, slots_by, all_applied, answer_in_section, named_applied, records_applied, section_applied, unnamed_section, with_slots}
use Rattle.ebpf_core_relo.specs.declared.spans.Span.{Span}
use Rattle.ebpf_core_relo.specs.declared.error.BtfRelocationError.{BtfRelocationError}

-- the slots of a function as records have left them, and its own
abbrev pub slots_now : RelocationInputs → Written → ℕ × ℕ → List bpf_insn
slots_now inputs so_far key = slots_so_far inputs.functions so_far key

abbrev pub slots_before : RelocationInputs → ℕ × ℕ → List bpf_insn
slots_before inputs key = own_slots (get inputs.functions key)

-- as many slots as before, and only those of class 0 that were so before
pub record IsSound (inputs : RelocationInputs) (so_far : Written) : Type 0 where
  pub as_many : (key : ℕ × ℕ) → length (slots_now inputs so_far key) ≡ length (slots_before inputs key)
  pub goes_on_only : (key : ℕ × ℕ) (i : ℕ) → goes_on (slice_get (slots_now inputs so_far key) i) ≡ true → goes_on (slice_get (slots_before inputs key) i) ≡ true

-- one record's outcome is put into its slot
pub record Puts (inputs : RelocationInputs) (located : ℕ × Relocation) (so_far left : Written) : Type 0 where
  pub key : ℕ × ℕ
  pub slot : ℕ
  pub about : record_slot inputs located ≡ Some (key, slot)
  pub outcome : Outcome
  pub found : outcome_of inputs.sides.local inputs.sides.target located.1 ≡ Ok outcome
  pub slots : List bpf_insn
  pub carried : written located.1.number (slots_now inputs so_far key) slot outcome ≡ Ok slots
  pub put : left ≡ insert so_far key slots

-- ---- a record that was applied puts its outcome

module _ (inputs : RelocationInputs) (section : ℕ) (so_far : Written) (r : Relocation) where
  abbrev IsPut : Result Written RelocationError → Type 0
  IsPut x = IfOk x (Puts inputs (section, r) so_far)

  is_put : IsPut (record_applied inputs section so_far r)
  unfolding record_applied put_outcome
  is_put =
      by_option IsPut (span_at r.insn_off (spans_of inputs.functions section)) _ _ (λ none. tt)
      (λ span there. by_answer IsPut (outcome_of inputs.sides.local inputs.sides.target r) _ (λ e fault. tt)
      (λ outcome is. by_answer IsPut (written r.number (slots_so_far inputs.functions so_far (section, span.address)) ((r.insn_off - span.start) / 8) outcome) _ (λ e fault. tt)
      (λ slots carried. record {
        key = (section, span.address);
        slot = (r.insn_off - span.start) / 8;
        about = ap (option_map (λ (s : Span). ((section, s.address), (r.insn_off - s.start) / 8))) there;
        outcome = outcome;
        found = is;
        slots = slots;
        carried = carried;
        put = refl;
      })))

pub applied_puts : (inputs : RelocationInputs) (section : ℕ) (so_far left : Written) (r : Relocation) → record_applied inputs section so_far r ≡ Ok left → Puts inputs (section, r) so_far left
applied_puts inputs section so_far left r e = IfOk-at_ok (Puts inputs (section, r) so_far) e (is_put inputs section so_far r)

-- ---- what it puts, key by key

-- the function's slots are those that it puts, and those of other functions stay
abbrev AtOrApart : RelocationInputs → Written → Written → ℕ × ℕ → List bpf_insn → ℕ × ℕ → Type 0
AtOrApart inputs so_far left key slots q = ((q ≡ key) × (slots_now inputs left q ≡ slots)) ⊎ (slots_now inputs left q ≡ slots_now inputs so_far q)

by_key : (inputs : RelocationInputs) (so_far left : Written) (key : ℕ × ℕ) (slots : List bpf_insn) → left ≡ insert so_far key slots → (q : ℕ × ℕ) → AtOrApart inputs so_far left key slots q
by_key inputs so_far left key slots put q = by_test (eq_by_cmp key_cmp q key) refl
  where
    got : slots_now inputs left q ≡ slots_by (cond (eq_by_cmp key_cmp q key) (Some slots) (get so_far q)) (get inputs.functions q)
    got = ap (λ m. slots_now inputs m q) put ∙ ap (λ o. slots_by o (get inputs.functions q)) (get-insert key_total so_far key slots q)

    by_test : (b : Bool) → eq_by_cmp key_cmp q key ≡ b → AtOrApart inputs so_far left key slots q
    by_test true is = inl (key_exact q key (is_equal _ is), got ∙ ap (λ b. slots_by (cond b (Some slots) (get so_far q)) (get inputs.functions q)) is)
    by_test false is = inr (got ∙ ap (λ b. slots_by (cond b (Some slots) (get so_far q)) (get inputs.functions q)) is)

module _ (inputs : RelocationInputs) (located : ℕ × Relocation) (so_far left : Written) (p : Puts inputs located so_far left) (sound : IsSound inputs so_far) where
  carries : CarriesAt p.slot p.outcome (slots_now inputs so_far p.key) p.slots
  carries = written_slots_carry located.1.number (slots_now inputs so_far p.key) p.slots p.slot p.outcome p.carried

  place : (q : ℕ × ℕ) → AtOrApart inputs so_far left p.key p.slots q
  place q = by_key inputs so_far left p.key p.slots p.put q

  pub sound_after : IsSound inputs left
  sound_after = record { as_many = λ q. many q (place q); goes_on_only = λ q i h. only q i h (place q) }
    where
      many : (q : ℕ × ℕ) → AtOrApart inputs so_far left p.key p.slots q → length (slots_now inputs left q) ≡ length (slots_before inputs q)
      many q (inl (same, is)) = ap length is ∙ carries.as_many ∙ sound.as_many p.key ∙ ap (λ k. length (slots_before inputs k)) (sym same)
      many q (inr is) = ap length is ∙ sound.as_many q

      only : (q : ℕ × ℕ) (i : ℕ) → goes_on (slice_get (slots_now inputs left q) i) ≡ true → AtOrApart inputs so_far left p.key p.slots q → goes_on (slice_get (slots_before inputs q) i) ≡ true
      only q i h (inl (same, is)) =
          ap (λ k. goes_on (slice_get (slots_before inputs k) i)) same
          ∙ sound.goes_on_only p.key i
          (goes_on_before p.slot p.outcome (slots_now inputs so_far p.key) p.slots carries i (sym (ap (λ s. goes_on (slice_get s i)) is) ∙ h))
      only q i h (inr is) = sound.goes_on_only q i (sym (ap (λ s. goes_on (slice_get s i)) is) ∙ h)

  -- its slot is there
  pub has_slot : HasSlot inputs located
  has_slot = record {
    key = p.key;
    slot = p.slot;
    about = p.about;
    there = rw (← sound.as_many p.key) (slice_get_within (slots_now inputs so_far p.key) p.slot carries.old carries.was);
  }

  -- its own slots are touched
  touches_first : Touches inputs located p.key p.slot
  touches_first = record { slot = p.slot; about = p.about; touched = inl refl }

  touches_second : goes_on (slice_get (slots_before inputs p.key) p.slot) ≡ true → Touches inputs located p.key (p.slot + 1)
  touches_second h = record { slot = p.slot; about = p.about; touched = inr (refl, h) }

  -- slots that it doesn't touch stay
  second_stays : (¬ (Touches inputs located p.key (p.slot + 1))) → (b : Bool) → goes_on (slice_get (slots_now inputs so_far p.key) p.slot) ≡ b
      → slice_get p.slots (p.slot + 1) ≡ slice_get (slots_now inputs so_far p.key) (p.slot + 1)
  second_stays apart true is = absurd (apart (touches_second (sound.goes_on_only p.key p.slot is)))
  second_stays apart false is = carries.next ∙ stays (slice_get (slots_now inputs so_far p.key) (p.slot + 1))
    where
      stays : (o : Option bpf_insn) → option_map (next_slot_written p.outcome.value carries.old) o ≡ o
      stays None = refl
      stays (Some next) = ap Some (nothing_behind p.outcome.value carries.old next (sym (ap goes_on carries.was) ∙ is))

  in_function : (i : ℕ) → (¬ (Touches inputs located p.key i)) → slice_get p.slots i ≡ slice_get (slots_now inputs so_far p.key) i
  in_function i apart = by_place (cases_eq i p.slot) (cases_eq i (p.slot + 1))
    where
      by_place : (i ≡ p.slot) ⊎ (i ≢ p.slot) → (i ≡ p.slot + 1) ⊎ (i ≢ p.slot + 1) → slice_get p.slots i ≡ slice_get (slots_now inputs so_far p.key) i
      by_place (inl same) other = absurd (apart (subst (Touches inputs located p.key) (sym same) touches_first))
      by_place (inr not_first) (inl same) =
          ap (slice_get p.slots) same
          ∙ second_stays (λ t. apart (subst (Touches inputs located p.key) (sym same) t)) (goes_on (slice_get (slots_now inputs so_far p.key) p.slot)) refl
          ∙ ap (slice_get (slots_now inputs so_far p.key)) (sym same)
      by_place (inr not_first) (inr not_second) = carries.others i not_first not_second

  pub others_stay : (q : ℕ × ℕ) (i : ℕ) → (¬ (Touches inputs located q i)) → slice_get (slots_now inputs left q) i ≡ slice_get (slots_now inputs so_far q) i
  others_stay q i apart = by_place (place q)
    where
      by_place : AtOrApart inputs so_far left p.key p.slots q → slice_get (slots_now inputs left q) i ≡ slice_get (slots_now inputs so_far q) i
      by_place (inl (same, is)) =
          ap (λ s. slice_get s i) is
          ∙ in_function i (λ t. apart (subst (λ k. Touches inputs located k i) (sym same) t))
          ∙ ap (λ k. slice_get (slots_now inputs so_far k) i) (sym same)
      by_place (inr is) = ap (λ s. slice_get s i) is

  -- its slots carry its outcome, where they are the function's own
  module _ (own : (q : ℕ × ℕ) (i : ℕ) → Touches inputs located q i → slice_get (slots_now inputs so_far q) i ≡ slice_get (slots_before inputs q) i) where
    too : (slots : List bpf_insn) × (written located.1.number (slots_before inputs p.key) p.slot p.outcome ≡ Ok slots)
    too = written_too located.1.number (slots_now inputs so_far p.key) (slots_before inputs p.key) p.slots p.slot p.outcome p.carried (own p.key p.slot touches_first) (sound.as_many p.key)

    own_carries : CarriesAt p.slot p.outcome (slots_before inputs p.key) too.0
    own_carries = written_slots_carry located.1.number (slots_before inputs p.key) too.0 p.slot p.outcome too.1

    same_old : carries.old ≡ own_carries.old
    same_old = same_Some _ _ (sym carries.was ∙ own p.key p.slot touches_first ∙ own_carries.was)

    first_same : slice_get p.slots p.slot ≡ slice_get too.0 p.slot
    first_same =
        carries.is ∙ sym carries.carries ∙ ap (λ s. patched_slot p.outcome.value s p.outcome) same_old ∙ own_carries.carries ∙ sym own_carries.is

    second_same : goes_on (slice_get (slots_before inputs p.key) p.slot) ≡ true → slice_get p.slots (p.slot + 1) ≡ slice_get too.0 (p.slot + 1)
    second_same h =
        carries.next
        ∙ ap (option_map (next_slot_written p.outcome.value carries.old)) (own p.key (p.slot + 1) (touches_second h))
        ∙ ap (λ s. option_map (next_slot_written p.outcome.value s) (slice_get (slots_before inputs p.key) (p.slot + 1))) same_old
        ∙ sym own_carries.next

    at_key : slots_now inputs left p.key ≡ p.slots
    at_key =
        ap (λ m. slots_now inputs m p.key) p.put
        ∙ ap (λ o. slots_by o (get inputs.functions p.key)) (get-insert key_total so_far p.key p.slots p.key)
        ∙ ap (λ b. slots_by (cond b (Some p.slots) (get so_far p.key)) (get inputs.functions p.key)) ((eq_by_cmp_equiv key_total).refl p.key)

    same_slot : (slot : ℕ) → record_slot inputs located ≡ Some (p.key, slot) → slot ≡ p.slot
    same_slot slot about = ap (λ (s : (ℕ × ℕ) × ℕ). s.1) (same_Some _ _ (sym about ∙ p.about))

    touched_same : (i : ℕ) → Touches inputs located p.key i → slice_get p.slots i ≡ slice_get too.0 i
    touched_same i t = by_place t.touched
      where
        slot_is : t.slot ≡ p.slot
        slot_is = same_slot t.slot t.about

        by_place : (i ≡ t.slot) ⊎ ((i ≡ t.slot + 1) × (goes_on (slice_get (slots_before inputs p.key) t.slot) ≡ true)) → slice_get p.slots i ≡ slice_get too.0 i
        by_place (inl same) = subst (λ j. slice_get p.slots j ≡ slice_get too.0 j) (sym (same ∙ slot_is)) first_same
        by_place (inr (same, goes)) =
            subst (λ j. slice_get p.slots j ≡ slice_get too.0 j) (sym (same ∙ ap (λ s. s + 1) slot_is))
            (second_same (ap (λ s. goes_on (slice_get (slots_before inputs p.key) s)) (sym slot_is) ∙ goes))

    pub put_carries : Carries inputs left located
    put_carries = by_function (get inputs.functions p.key) refl
      where
        by_function : (o : Option Function) → get inputs.functions p.key ≡ o → Carries inputs left located
        by_function None empty = let never : ◌≡◌ {A = Option bpf_insn} None (Some own_carries.old) = sym (ap (λ o. slice_get (own_slots o) p.slot) empty) ∙ own_carries.was in cc
        by_function (Some function) there = record {
          key = p.key;
          slot = p.slot;
          about = p.about;
          function = function;
          there = there;
          outcome = p.outcome;
          found = p.found;
          same_path = outcomes_are_of_same_paths inputs.sides.local inputs.sides.target located.1 p.outcome p.found;
          slots = too.0;
          carried = subst (λ o. written located.1.number (own_slots o) p.slot p.outcome ≡ Ok too.0) there too.1;
          stands = λ i t. ap (λ s. slice_get s i) at_key ∙ touched_same i t;
        }

-- ---- what the records of an object leave, one after the other

-- records of an object, applied one after the other
abbrev Runs : RelocationInputs → List (ℕ × Relocation) → Written → Written → Type 0
Runs inputs [] so_far left = so_far ≡ left
Runs inputs (located ∷ rest) so_far left = (next : Written) × (record_applied inputs located.0 so_far located.1 ≡ Ok next) × Runs inputs rest next left

-- ---- the records of an object are so applied

Runs-append : (inputs : RelocationInputs) (ps qs : List (ℕ × Relocation)) (a b c : Written) → Runs inputs ps a b → Runs inputs qs b c → Runs inputs (ps ++ qs) a c
Runs-append inputs [] qs a b c first second = subst (λ m. Runs inputs qs m c) (sym first) second
Runs-append inputs (p ∷ ps) qs a b c (next, applied, rest) second = (next, applied, Runs-append inputs ps qs next b c rest second)

records_run : (inputs : RelocationInputs) (section : ℕ) (rs : List Relocation) (a b : Written) → records_applied inputs section rs a ≡ Ok b → Runs inputs (map (λ r. (section, r)) rs) a b
records_run inputs section [] a b e = same_ok _ _ e
records_run inputs section (r ∷ rs) a b e =
    let (next, applied, rest) = ok_parts (record_applied inputs section a r) (records_applied inputs section rs) b e in
    (next, applied, records_run inputs section rs next b rest)

pub in_section_ok : {X : Type 0} (name : List ℕ) (r : Result X RelocationError) (x : X) → answer_in_section name r ≡ Ok x → r ≡ Ok x
in_section_ok name (Ok y) x e = ap Ok (same_ok _ _ e)
in_section_ok name (Err f) x e = cc

-- all records of a section are
abbrev AllRun : RelocationInputs → Option ℕ → List Relocation → Written → Written → Type 0
AllRun inputs section rs a b = Runs inputs (records_in_section section rs) a b × (map (λ located. located.1) (records_in_section section rs) ≡ rs)

section_runs : (inputs : RelocationInputs) (rs : List Relocation) (a b : Written) (o : Option SectionIndex)
    → if_some o (λ section. records_applied inputs section.0 rs a) (Err errors.SectionNotFound) ≡ Ok b → AllRun inputs (option_map (λ section. section.0) o) rs a b
section_runs inputs rs a b None e = cc
section_runs inputs rs a b (Some section) e = (records_run inputs section.0 rs a b e, same_records section.0 rs)
  where
    same_records : (number : ℕ) (xs : List Relocation) → map (λ (located : ℕ × Relocation). located.1) (map (λ r. (number, r)) xs) ≡ xs
    same_records number [] = refl
    same_records number (x ∷ xs) = ap (λ ys. x ∷ ys) (same_records number xs)

named_runs : (inputs : RelocationInputs) (part : ℕ × List Relocation) (a b : Written) → named_applied inputs part a ≡ Ok b → AllRun inputs (section_index_named_at inputs part.0) part.1 a b
named_runs inputs part a b e = by_text (text_at inputs.sides.local.strings part.0) e
  where
    by_text : (t : Result (List ℕ) BtfError)
        → ◌≡◌ {A = Result Written BtfRelocationError}
        (elim t [ Ok name ↦ answer_in_section name (section_applied inputs name part.1 a) | Err f ↦ answer_in_section (unnamed_section part.0) (Err (errors.BtfError f)) ]) (Ok b)
        → AllRun inputs (section_index_named inputs t) part.1 a b
    by_text (Ok name) e = section_runs inputs part.1 a b (get inputs.section_infos name) (in_section_ok name (section_applied inputs name part.1 a) b e)
    by_text (Err f) e = cc

all_run : (inputs : RelocationInputs) (parts : List (ℕ × List Relocation)) (a b : Written) → all_applied inputs parts a ≡ Ok b → Runs inputs (records_with_sections inputs parts) a b
all_run inputs [] a b e = same_ok _ _ e
all_run inputs (part ∷ parts) a b e =
    let (next, applied, rest) = ok_parts (named_applied inputs part a) (all_applied inputs parts) b e in
    Runs-append inputs (records_in_section (section_index_named_at inputs part.0) part.1) (records_with_sections inputs parts) a next b (named_runs inputs part a next applied).0 (all_run inputs parts next b rest)

-- no record is left out
all_located : (inputs : RelocationInputs) (parts : List (ℕ × List Relocation)) (a b : Written) → all_applied inputs parts a ≡ Ok b
    → map (λ located. located.1) (records_with_sections inputs parts) ≡ flat_map (λ part. part.1) parts
all_located inputs [] a b e = refl
all_located inputs (part ∷ parts) a b e =
    let (next, applied, rest) = ok_parts (named_applied inputs part a) (all_applied inputs parts) b e in
    map-append (λ (located : ℕ × Relocation). located.1) (records_in_section (section_index_named_at inputs part.0) part.1) (records_with_sections inputs parts)
    ∙ ap (λ xs. xs ++ map (λ (located : ℕ × Relocation). located.1) (records_with_sections inputs parts)) (named_runs inputs part a next applied).1
    ∙ ap (λ xs. part.1 ++ xs) (all_located inputs parts next b rest)

pub records_have_sections : RecordsHaveSections
records_have_sections inputs parts so_far e = all_located inputs parts empty so_far e

-- ---- what they leave

none_yet : (inputs : RelocationInputs) (key : ℕ × ℕ) → slots_now inputs (empty {R = key_cmp}) key ≡ slots_before inputs key
none_yet inputs key = ap (λ o. slots_by o (get inputs.functions key)) (get-empty key_cmp key)

sound_first : (inputs : RelocationInputs) → IsSound inputs empty
sound_first inputs = record {
  as_many = λ key. ap length (none_yet inputs key);
  goes_on_only = λ key i h. sym (ap (λ s. goes_on (slice_get s i)) (none_yet inputs key)) ∙ h;
}

-- records keep what is sound
sound_run : (inputs : RelocationInputs) (ps : List (ℕ × Relocation)) (a b : Written) → Runs inputs ps a b → IsSound inputs a → IsSound inputs b
sound_run inputs [] a b run sound = subst (IsSound inputs) run sound
sound_run inputs (p ∷ ps) a b (next, applied, rest) sound =
    sound_run inputs ps next b rest (sound_after inputs p a next (applied_puts inputs p.0 a next p.1 applied) sound)

-- each of them is about a slot that is there
slots_there : (inputs : RelocationInputs) (ps : List (ℕ × Relocation)) (a b : Written) → Runs inputs ps a b → IsSound inputs a → (n : ℕ) (located : ℕ × Relocation) → slice_get ps n ≡ Some located
    → HasSlot inputs located
slots_there inputs [] a b run sound n located is = cc
slots_there inputs (p ∷ ps) a b (next, applied, rest) sound zero located is =
    subst (HasSlot inputs) (same_Some _ _ is) (has_slot inputs p a next (applied_puts inputs p.0 a next p.1 applied) sound)
slots_there inputs (p ∷ ps) a b (next, applied, rest) sound (suc n) located is =
    slots_there inputs ps next b rest (sound_after inputs p a next (applied_puts inputs p.0 a next p.1 applied) sound) n located is

pub records_have_slots : RecordsHaveSlots
records_have_slots inputs parts so_far e n located is =
    slots_there inputs (records_with_sections inputs parts) empty so_far (all_run inputs parts empty so_far e) (sound_first inputs) n located is

-- a slot that none of them touches stays
slot_stays : (inputs : RelocationInputs) (ps : List (ℕ × Relocation)) (a b : Written) → Runs inputs ps a b → IsSound inputs a → (key : ℕ × ℕ) (i : ℕ)
    → ((n : ℕ) (located : ℕ × Relocation) → slice_get ps n ≡ Some located → ¬ (Touches inputs located key i))
    → slice_get (slots_now inputs b key) i ≡ slice_get (slots_now inputs a key) i
slot_stays inputs [] a b run sound key i apart = ap (λ m. slice_get (slots_now inputs m key) i) (sym run)
slot_stays inputs (p ∷ ps) a b (next, applied, rest) sound key i apart =
    let puts = applied_puts inputs p.0 a next p.1 applied in
    slot_stays inputs ps next b rest (sound_after inputs p a next puts sound) key i (λ n q e. apart (suc n) q e)
    ∙ others_stay inputs p a next puts sound key i (apart 0 p refl)

-- the slots that a record touches are the functions' own
abbrev IsFirst : RelocationInputs → Written → ℕ × Relocation → Type 0
IsFirst inputs so_far located = (key : ℕ × ℕ) (i : ℕ) → Touches inputs located key i → slice_get (slots_now inputs so_far key) i ≡ slice_get (slots_before inputs key) i

carried_on : (inputs : RelocationInputs) (a b : Written) (located : ℕ × Relocation) → Carries inputs a located
    → ((key : ℕ × ℕ) (i : ℕ) → Touches inputs located key i → slice_get (slots_now inputs b key) i ≡ slice_get (slots_now inputs a key) i) → Carries inputs b located
carried_on inputs a b located c stay = record {
  key = c.key;
  slot = c.slot;
  about = c.about;
  function = c.function;
  there = c.there;
  outcome = c.outcome;
  found = c.found;
  same_path = c.same_path;
  slots = c.slots;
  carried = c.carried;
  stands = λ i t. stay c.key i t ∙ c.stands i t;
}

-- the first of some records is carried, where no other touches its slots
first_carried : (inputs : RelocationInputs) (p : ℕ × Relocation) (ps : List (ℕ × Relocation)) (a next b : Written) → record_applied inputs p.0 a p.1 ≡ Ok next → Runs inputs ps next b
    → IsSound inputs a → IsFirst inputs a p → WritesAlone inputs (p ∷ ps) 0 p → Carries inputs b p
first_carried inputs p ps a next b applied rest sound own alone =
    let puts = applied_puts inputs p.0 a next p.1 applied in
    carried_on inputs next b p (put_carries inputs p a next puts sound own)
    (λ key i t.
    slot_stays inputs ps next b rest (sound_after inputs p a next puts sound) key i
    (λ m other e u. let never : suc m ≡ 0 = alone (suc m) other e key i t u in absurd (omega arith)))

-- the record that alone touches its slots is carried, where these are the functions' own before it
alone_carried : (inputs : RelocationInputs) (ps : List (ℕ × Relocation)) (a b : Written) → Runs inputs ps a b → IsSound inputs a → (n : ℕ) (located : ℕ × Relocation) → slice_get ps n ≡ Some located
    → IsFirst inputs a located → WritesAlone inputs ps n located → Carries inputs b located
alone_carried inputs [] a b run sound n located is own alone = cc
alone_carried inputs (p ∷ ps) a b (next, applied, rest) sound zero located is own alone =
    subst (λ q. IsFirst inputs a q → WritesAlone inputs (p ∷ ps) 0 q → Carries inputs b q) (same_Some _ _ is) (first_carried inputs p ps a next b applied rest sound) own alone
alone_carried inputs (p ∷ ps) a b (next, applied, rest) sound (suc n) located is own alone =
    let puts = applied_puts inputs p.0 a next p.1 applied in
    alone_carried inputs ps next b rest (sound_after inputs p a next puts sound) n located is
    (λ key i t.
    others_stay inputs p a next puts sound key i (λ u. let never : 0 ≡ suc n = alone 0 p refl key i t u in absurd (omega arith))
    ∙ own key i t)
    (λ m other e key i t u. let later : suc m ≡ suc n = alone (suc m) other e key i t u in omega arith)

pub records_alone_are_carried : RecordsAloneAreCarried
records_alone_are_carried inputs parts so_far e n located is alone =
    alone_carried inputs (records_with_sections inputs parts) empty so_far (all_run inputs parts empty so_far e) (sound_first inputs) n located is
    (λ key i t. ap (λ s. slice_get s i) (none_yet inputs key)) alone

pub other_slots_stay : OtherSlotsStay
other_slots_stay inputs parts so_far e key i apart =
    slot_stays inputs (records_with_sections inputs parts) empty so_far (all_run inputs parts empty so_far e) (sound_first inputs) key i apart
    ∙ ap (λ s. slice_get s i) (none_yet inputs key)

pub slots_stay_as_many : SlotsStayAsMany
slots_stay_as_many inputs parts so_far e key = (sound_run inputs (records_with_sections inputs parts) empty so_far (all_run inputs parts empty so_far e) (sound_first inputs)).as_many key

-- ---- put in place

-- of no function there are no slots
none_put : (slots : List bpf_insn) → length slots ≡ 0 → [] ≡ slots
none_put [] e = refl
none_put (s ∷ slots) e = absurd (omega arith)

put_by : (w : Option (List bpf_insn)) (f : Option Function) → length (slots_by w f) ≡ length (own_slots f) → own_slots (with_slots w f) ≡ slots_by w f
put_by None None e = refl
put_by None (Some f) e = refl
put_by (Some slots) None e = none_put slots e
put_by (Some slots) (Some f) e = refl

shape_by : (w : Option (List bpf_insn)) (f after : Option Function) → length (slots_by w f) ≡ length (own_slots f) → after ≡ with_slots w f
    → MatchOption f (after ≡ None) (λ g. IsSomeAnd after (KeepsShape g))
shape_by w None after many is = is ∙ nothing w
  where
    nothing : (o : Option (List bpf_insn)) → with_slots o None ≡ None
    nothing None = refl
    nothing (Some slots) = refl
shape_by None (Some f) after many is = subst (λ o. IsSomeAnd o (KeepsShape f)) (sym is) (record { others = refl; slots = refl })
shape_by (Some slots) (Some f) after many is = subst (λ o. IsSomeAnd o (KeepsShape f)) (sym is) (record { others = refl; slots = many })

pub put_slots_stand : PutSlotsStand
put_slots_stand inputs parts so_far e functions put key =
    ap own_slots (put key) ∙ put_by (get so_far key) (get inputs.functions key) (slots_stay_as_many inputs parts so_far e key)

pub records_keep_shapes : RecordsKeepShapes
records_keep_shapes inputs parts so_far e functions put key =
    shape_by (get so_far key) (get inputs.functions key) (get functions key) (slots_stay_as_many inputs parts so_far e key) (put key)
