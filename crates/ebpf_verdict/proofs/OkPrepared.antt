-- An ok verdict, put together from what it says of passes, relocations and programs.
use Rattle.std.proofs.Common.{◌≡◌, ◌∙◌, ap, subst, sym, refl, arith, ℕ, zero, suc, ◌+◌, ◌<◌, Bool, true, false, List, [], ◌∷◌, length, map, Option, Some, None, Ok, Err}
use Rattle.std.specs.Prelude.{◌||◌, ◌&&◌, ◌==◌, not, is_some, MatchBool, slice_get, if◌then◌else◌, Result, option_map}
use Rattle.std.proofs.lemmas.Bool.{MatchBool-at_true, eqb-true}
use Rattle.std.specs.Cmp.{eq_by_cmp_equiv}
use Rattle.std.specs.FinMap.{FinMap, get, insert, get-insert}
use Rattle.std.specs.List.{filter_map, list_any, range_with_len, cons_option}
use Rattle.std.specs.Option.{option_and_then}
use Rattle.std.specs.Ordering.{eq_by_cmp}
use Rattle.ebpf_base.proofs.Maps.{key_exact, is_equal}
use Rattle.ebpf_base.specs.Faults.{first_some, or_else}
use Rattle.ebpf_base.specs.Maps.{key_cmp, key_total}
use Rattle.ebpf_btf.specs.TypeInfo.{TypeInfo}
use Rattle.ebpf_btf_ext.specs.ExtReading.{ExtInfo}
use Rattle.ebpf_btf_ext.specs.declared.relocation.Relocation.{Relocation}
use Rattle.ebpf_core_relo.proofs.FirstRefusal.{first_refusal}
use Rattle.ebpf_core_relo.specs.RecordOutcomes.{HaveRecords, outcome_without_texts, record_slots, refusal, refusal_in, result_without_texts, unless}
use Rattle.ebpf_core_relo.specs.Records.{RelocationInputs, Written, relocation_inputs_between}
use Rattle.ebpf_core_relo.specs.declared.error.BtfRelocationError.{BtfRelocationError}
use Rattle.ebpf_core_relo.specs.declared.outcomes.RecordOutcome.{RecordOutcome}
use Rattle.ebpf_core_relo.specs.declared.outcomes.RecordResult.{RecordResult}
use Rattle.ebpf_core_relo.specs.declared.outcomes.RecordResult.TheVariants.{Value, Absent, Refused}
use Rattle.ebpf_model.specs.Symbols.{FunctionKey}
use Rattle.ebpf_model.specs.declared.function.Function.{Function}
use Rattle.ebpf_object.proofs.Staging.{after_calls}
use Rattle.ebpf_object.specs.LinkedPrograms.{ProgramsAreLinked, is_program_key, linkable_of, programs_in_order}
use Rattle.ebpf_object.specs.Names.{has_function_in}
use Rattle.ebpf_object.specs.Prepared.{Stages}
use Rattle.ebpf_object.specs.Stages.{Chosen, RelocatesTypes, fds_fault}
use Rattle.ebpf_object.specs.Stages as stage
use Rattle.ebpf_object.specs.WrittenSlots.{AreRecordOutcomes, outcomes_by, relocated_slots, relocated_slots_by, slots_of_records, with_externs}
use Rattle.ebpf_object.specs.declared.object.Object.{Object}
use Rattle.ebpf_parts.specs.declared.insn.bpf_insn.{bpf_insn}
use Rattle.ebpf_parts.specs.Slots.{is_poisoned}
use Rattle.ebpf_reloc.proofs.OneResult.{any_at, one_way}
use Rattle.ebpf_reloc.specs.Linking.{ProgramValue, key_of, IsLinked}
use Rattle.ebpf_reloc.specs.SlotTargets.{LinkableValue}
use Rattle.ebpf_verdict.proofs.SoFar.{within}
use Rattle.ebpf_verdict.specs.Causes.{map_cause, slot_cause}
use Rattle.ebpf_verdict.specs.Reasons.{cause_if_reached, cause_of, is_reached, reason_at, reasons_of}
use Rattle.ebpf_verdict.specs.Verdicts.{AreVerdicts, IsCode, IsJudged, IsVerdict, OkIsPrepared, Runs, RunsPrepared, code_is_ok, has_empty_part, has_empty_section, is_ok, is_refused, is_refused_result, map_types}
use Rattle.ebpf_verdict.specs.Writing.{IsWritten, IsWrittenOver, all_passes, no_symbols, own_descriptors}
use Rattle.ebpf_verdict.specs.declared.cause.Cause.{Cause}
use Rattle.ebpf_verdict.specs.declared.cause.Cause.TheVariants.{Poisoned}
use Rattle.ebpf_verdict.specs.declared.programs.JudgedProgram.{JudgedProgram}
use Rattle.ebpf_verdict.specs.declared.programs.ProgramCode.{ProgramCode}
use Rattle.ebpf_verdict.specs.declared.programs.ProgramCode.TheVariants as code
use Rattle.ebpf_verdict.specs.declared.programs.ProgramVerdict.{ProgramVerdict}
use Rattle.ebpf_verdict.specs.declared.reasons.SlotReason.{SlotReason}
use Rattle.ebpf_verdict.specs.declared.verdict.Verdict.{Verdict}

-- ---- truth values

or_false : (b c : Bool) → (b || c) ≡ false → (b ≡ false) × (c ≡ false)
or_false false c h = (refl, h)
or_false true c h = cc

and_true : (b c : Bool) → (b && c) ≡ true → (b ≡ true) × (c ≡ true)
and_true true c h = (refl, h)
and_true false c h = cc

not_true : (b : Bool) → not b ≡ true → b ≡ false
not_true false h = refl
not_true true h = cc

not_false : (b : Bool) → not b ≡ false → b ≡ true
not_false true h = refl
not_false false h = cc

none_of : {A : Type 0} (o : Option A) → is_some o ≡ false → o ≡ None
none_of None h = refl
none_of (Some x) h = cc

nil_of : {A : Type 0} (xs : List A) → (length xs == 0) ≡ true → xs ≡ []
nil_of [] h = refl
nil_of (x ∷ xs) h = let e : length (x ∷ xs) ≡ 0 = eqb-true (length (x ∷ xs)) 0 h in absurd (omega arith)

-- ---- lists

same_some : {A : Type 0} (x y : A) → Some x ≡ Some y → x ≡ y
same_some x y h = cc

any_none : {A : Type 0} (p : A → Bool) (xs : List A) → list_any p xs ≡ false → (i : ℕ) (x : A) → slice_get xs i ≡ Some x → p x ≡ false
any_none p [] h i x at = cc
any_none p (y ∷ xs) h zero x at = ap p (sym (same_some y x at)) ∙ (or_false (p y) (list_any p xs) h).0
any_none p (y ∷ xs) h (suc i) x at = any_none p xs (or_false (p y) (list_any p xs) h).1 i x at

range_at : (a n i : ℕ) → i < n → slice_get (range_with_len a n) i ≡ Some (a + i)
range_at a zero i h = absurd (omega (arith, h))
range_at a (suc n) zero h = let e : a ≡ a + 0 = omega arith in ap Some e
range_at a (suc n) (suc i) h =
    let e : (a + 1) + i ≡ a + suc i = omega arith in
    range_at (a + 1) n i (omega (arith, h)) ∙ ap Some e

range_from_zero : (n i : ℕ) → i < n → slice_get (range_with_len 0 n) i ≡ Some i
range_from_zero n i h = let e : 0 + i ≡ i = omega arith in range_at 0 n i h ∙ ap Some e

module _ {A B : Type 0} (f : A → Option B) where
  first_none : (o : Option B) (rest : List B) → cons_option o rest ≡ [] → (o ≡ None) × (rest ≡ [])
  first_none None rest h = (refl, h)
  first_none (Some y) rest h = cc

  filtered_none : (xs : List A) → filter_map f xs ≡ [] → (i : ℕ) (x : A) → slice_get xs i ≡ Some x → f x ≡ None
  filtered_none [] h i x at = cc
  filtered_none (y ∷ xs) h zero x at = ap f (sym (same_some y x at)) ∙ (first_none (f y) (filter_map f xs) h).0
  filtered_none (y ∷ xs) h (suc i) x at = filtered_none xs (first_none (f y) (filter_map f xs) h).1 i x at

-- ---- the slots of a program without a reason

mapped_none : {A B : Type 0} (g : A → B) (o : Option A) → option_map g o ≡ None → o ≡ None
mapped_none g None h = refl
mapped_none g (Some x) h = cc

else_none : {A : Type 0} (o p : Option A) → or_else o p ≡ None → (o ≡ None) × (p ≡ None)
else_none None p h = (refl, h)
else_none (Some x) p h = cc

module _ (kernel : TypeInfo) (maps : List ℕ) (reached : List Bool) (slots : List bpf_insn) (no_reasons : reasons_of kernel maps reached slots ≡ []) (i : ℕ) (slot : bpf_insn) (at : slice_get slots i ≡ Some slot) where
  no_cause : cause_of kernel maps (is_reached reached i) slot ≡ None
  no_cause =
      let place : slice_get (range_with_len 0 (length slots)) i ≡ Some i = range_from_zero (length slots) i (within slots i slot at) in
      let no_reason : reason_at kernel maps reached slots i ≡ None = filtered_none (reason_at kernel maps reached slots) (range_with_len 0 (length slots)) no_reasons i i place in
      mapped_none (λ cause. record { slot = i; cause = cause }) (cause_of kernel maps (is_reached reached i) slot)
      (sym (ap (option_and_then (λ s. option_map (λ cause. record { slot = i; cause = cause }) (cause_of kernel maps (is_reached reached i) s))) at) ∙ no_reason)

  no_map_cause : map_cause kernel maps slot ≡ None
  no_map_cause = (else_none (map_cause kernel maps slot) (cause_if_reached kernel (is_reached reached i) slot) no_cause).0

  no_slot_cause : is_reached reached i ≡ true → slot_cause kernel slot ≡ None
  no_slot_cause on =
      sym (ap (λ b. cause_if_reached kernel b slot) on)
      ∙ (else_none (map_cause kernel maps slot) (cause_if_reached kernel (is_reached reached i) slot) no_cause).1

  not_poisoned : is_reached reached i ≡ true → is_poisoned slot ≡ false
  not_poisoned on = step (is_poisoned slot) _ (no_slot_cause on)
    where
      step : (b : Bool) (rest : Option Cause) → (if b then Some Poisoned else rest) ≡ None → b ≡ false
      step false rest h = refl
      step true rest h = cc

-- ---- relocations that aren't refused

unrefused_result : (name : List ℕ) (result : RecordResult) → is_refused_result result ≡ false → refusal_in name (result_without_texts result) ≡ None
unrefused_result name (Value outcome) h = refl
unrefused_result name (Absent absence) h = refl
unrefused_result name (Refused fault) h = cc

unrefused : (inputs : RelocationInputs) (rows : List RecordOutcome) → list_any is_refused rows ≡ false → first_some (refusal inputs) (map outcome_without_texts rows) ≡ None
unrefused inputs [] h = refl
unrefused inputs (row ∷ rows) h =
    let both = or_false (is_refused row) (list_any is_refused rows) h in
    ap (λ o. or_else o (first_some (refusal inputs) (map outcome_without_texts rows))) (unrefused_result _ row.result both.0) ∙ unrefused inputs rows both.1

have_records : (parts : List (ℕ × List Relocation)) → has_empty_part parts ≡ false → HaveRecords parts
have_records parts h n part at empty = clash (sym (ap (λ rs. length rs == 0) empty) ∙ any_none (λ part. length part.1 == 0) parts h n part at)
  where
    clash : true ≡ false → ⊥
    clash e = cc

module _ (o : Object) (kernel : TypeInfo) (rows : List RecordOutcome) (slots : Written) where
  slots_stated : (btf : Option TypeInfo) (ext : Option ExtInfo) → map outcome_without_texts rows ≡ outcomes_by o kernel btf ext → slots ≡ slots_of_records o kernel btf ext
      → has_empty_section ext ≡ false → list_any is_refused rows ≡ false → relocated_slots_by o kernel btf ext ≡ Ok slots
  slots_stated None ext r w e f = ap (λ (s : Written). Ok s) (sym w)
  slots_stated (Some local) None r w e f = ap (λ (s : Written). Ok s) (sym w)
  slots_stated (Some local) (Some ext) r w e f =
      let inputs = relocation_inputs_between local kernel o.functions o.section_infos in
      first_refusal inputs ext.relocations (have_records ext.relocations e)
      ∙ ap (λ rs. unless (first_some (refusal inputs) rs) (record_slots inputs ext.relocations)) (sym r)
      ∙ ap (λ fault. unless fault (record_slots inputs ext.relocations)) (unrefused inputs rows f)
      ∙ ap (λ (s : Written). Ok s) (sym w)

-- ---- all programs, linked

module _ (parts : LinkableValue) where
  one_more : (p : ProgramValue) (ps : List ProgramValue) (f : Function) (is : IsLinked parts (key_of p) f) (m : FinMap key_cmp Function) → ProgramsAreLinked parts ps m → ProgramsAreLinked parts (p ∷ ps) (insert m (key_of p) f)
  one_more p ps f is m rest key = by_key (eq_by_cmp key_cmp key (key_of p)) refl
    where
      by_key : (b : Bool) → eq_by_cmp key_cmp key (key_of p) ≡ b
          → MatchBool (b || is_program_key ps key) ((g : Function) × (get (insert m (key_of p) f) key ≡ Some g) × IsLinked parts key g) (get (insert m (key_of p) f) key ≡ get parts.functions key)
      by_key true e =
          (f, get-insert key_total m (key_of p) f key ∙ ap (λ b. if b then Some f else get m key) e, subst (λ (k : FunctionKey). IsLinked parts k f) (sym (key_exact key (key_of p) (is_equal _ e))) is)
      by_key false e =
          let same : get (insert m (key_of p) f) key ≡ get m key = get-insert key_total m (key_of p) f key ∙ ap (λ b. if b then Some f else get m key) e in
          subst (λ (o : Option Function). MatchBool (is_program_key ps key) ((g : Function) × (o ≡ Some g) × IsLinked parts key g) (o ≡ get parts.functions key)) (sym same) (rest key)

  all_linked : (ps : List ProgramValue) → ((i : ℕ) (p : ProgramValue) → slice_get ps i ≡ Some p → (f : Function) × IsLinked parts (key_of p) f) → (m : FinMap key_cmp Function) × ProgramsAreLinked parts ps m
  all_linked [] each = (parts.functions, λ key. refl)
  all_linked (p ∷ ps) each =
      let here = each 0 p refl in
      let rest = all_linked ps (λ i q at. each (suc i) q at) in
      (insert rest.0 (key_of p) here.0, one_more p ps here.0 here.1 rest.0 rest.1)

-- ---- programs that are judged without a reason

module _ (kernel : TypeInfo) (maps : List ℕ) (records : List RecordOutcome) (parts : LinkableValue) where
  judged_ok : (program : ProgramValue) (c : ProgramCode) → IsCode kernel maps records parts program c → code_is_ok c ≡ true → (j : JudgedProgram) × IsJudged kernel maps records parts (key_of program) j × (j.reasons ≡ [])
  judged_ok program (code.Linked j) is ok = (j, is, nil_of j.reasons (and_true (length j.reasons == 0) (length j.refused == 0) ok).0)
  judged_ok program (code.Refused e) is ok = cc

  runs : (key : FunctionKey) (j : JudgedProgram) → IsJudged kernel maps records parts key j → j.reasons ≡ [] → Runs kernel maps j.linked.function.instructions
  runs key j is no_reasons =
      let empty = sym is.reasons ∙ no_reasons in
      record {
        reached = j.reached;
        answer = is.reached;
        unpoisoned = λ i slot at on. not_poisoned kernel maps j.reached j.linked.function.instructions empty i slot at on;
        calls = λ i slot at on. no_slot_cause kernel maps j.reached j.linked.function.instructions empty i slot at on;
        mapped = λ i slot at. no_map_cause kernel maps j.reached j.linked.function.instructions empty i slot at;
      }

  module _ (programs : List ProgramValue) (all : List ProgramVerdict) (are : AreVerdicts kernel maps records parts programs all) (ok : list_any (λ p. not (code_is_ok p.code)) all ≡ false) where
    judged_at : (i : ℕ) (program : ProgramValue) → slice_get programs i ≡ Some program → (j : JudgedProgram) × IsJudged kernel maps records parts (key_of program) j × (j.reasons ≡ [])
    judged_at i program at =
        let (v, there, is) = are.each i program at in
        judged_ok program v.code is.outcome (not_false (code_is_ok v.code) (any_none (λ p. not (code_is_ok p.code)) all ok i v there))

-- ---- the whole

with_externs_keeps : (c : Object) → (with_externs c).programs ≡ c.programs
with_externs_keeps c = step (is_some c.btf) _
  where
    step : (b : Bool) (fs : FinMap key_cmp Function) → (if b then record c { functions = fs } else c).programs ≡ c.programs
    step true fs = refl
    step false fs = refl

module _ (o : Object) (kernel : TypeInfo) (slots : Written) (unlinked : Object) (w : IsWrittenOver kernel slots o unlinked) (stated : relocated_slots o kernel ≡ Ok slots) where
  types : RelocatesTypes (Some kernel) o w.relocated
  types = (record { slots = slots; written = stated; each = w.slots_put.each }, w.slots_put.others_stay)

  own : own_descriptors w.relocated ≡ own_descriptors o
  own = ap own_descriptors w.slots_put.others_stay

  same_programs : unlinked.programs ≡ o.programs
  same_programs =
      ap (λ (x : Object). x.programs) w.passes.externs
      ∙ with_externs_keeps w.passes.resolved
      ∙ ap (λ (x : Object). x.programs) w.passes.resolution.1
      ∙ ap (λ (x : Object). x.programs) w.passes.maps
      ∙ ap (λ (x : Object). x.programs) w.slots_put.others_stay

  staged : (m : FinMap key_cmp Function) → ProgramsAreLinked (linkable_of unlinked (has_function_in unlinked.functions)) (programs_in_order o.programs) m → Stages (all_passes kernel o) no_symbols o (record unlinked { functions = m })
  staged m linked =
      after_calls (all_passes kernel o) no_symbols o w.given w.relocated types
      (sym (ap (λ ds. fds_fault (Some ds) w.relocated) own) ∙ w.passes.maps_sound)
      w.passes.fds_written (w.passes.maps ∙ ap (λ ds. stage.fds_written (Some ds) w.relocated) own)
      w.passes.resolved w.passes.resolution w.passes.externs_sound unlinked w.passes.externs w.passes.complete
      (record unlinked { functions = m })
      (subst (λ ps. ProgramsAreLinked (linkable_of unlinked (has_function_in unlinked.functions)) (programs_in_order ps) m) (sym same_programs) linked, refl)

pub ok_is_prepared : OkIsPrepared
ok_is_prepared o kernel v is ok =
    let a = and_true (not (is_some v.refusal)) _ ok in
    let b = and_true (not v.has_empty_section) _ a.1 in
    let c = and_true (length v.lacking == 0) _ b.1 in
    let d = and_true (not (list_any is_refused v.records)) _ c.1 in
    let no_refusal = none_of v.refusal (not_true _ a.0) in
    let no_empty = sym is.sections ∙ not_true _ b.0 in
    let unrefused_rows = not_true _ d.0 in
    let w = is.written no_refusal (nil_of v.lacking c.0) in
    let are = is.programs no_refusal in
    let parts = linkable_of is.unlinked (has_function_in is.unlinked.functions) in
    let stated = slots_stated o kernel v.records is.slots o.btf o.btf_ext is.records.records is.records.written no_empty unrefused_rows in
    let judged = judged_at kernel (map_types o) v.records parts (programs_in_order o.programs) v.programs are (not_true _ d.1) in
    let linked = all_linked parts (programs_in_order o.programs) (λ i p at. let j = judged i p at in (j.0.linked.function, j.1.linked)) in
    record {
      after = record is.unlinked { functions = linked.0 };
      stages = staged o kernel is.slots is.unlinked w stated linked.0 linked.1;
      programs = λ i program at.
          let j = judged i program at in
          let key = key_of program in
          let among : is_program_key (programs_in_order o.programs) key ≡ true =
          any_at (λ (p : ProgramValue). eq_by_cmp key_cmp key (key_of p)) (programs_in_order o.programs) i program at ((eq_by_cmp_equiv key_total).refl key)
          in
          let there = MatchBool-at_true _ _ among (linked.1 key) in
          (j.0.linked.function, there.1 ∙ ap Some (one_way parts key there.0 j.0.linked.function there.2 j.1.linked), runs kernel (map_types o) v.records parts key j.0 j.1 j.2);
    }
