-- What writing an outcome makes of a function's slots, and slots that take the places of those of functions.
use Rattle.std.proofs.Common.{◌≡◌, ℕ, ◌+◌, ◌*◌, ◌/◌, ◌%◌, ◌<◌, Bool, true, false, List, length, Option, Some, None, Result, Ok, refl, sym, ap, ◌∙◌, inl, inr, ◌⊎◌, arith, length-set, slice_get, slice_set, ◌==◌, if◌then◌else◌, cond, [], ◌∷◌, ◌-◌}
use Rattle.std.specs.Prelude.{◌≢◌, ◌^◌, IfOk, nat_lt, option_map, pos}
use Rattle.std.proofs.lemmas.Bool.{cases_eq, eqb-true}
use Rattle.std.proofs.lemmas.Nat.{mod-mul-add, mod_below}
use Rattle.std.proofs.lemmas.Result.{IfOk-at_ok}
use Rattle.std.proofs.lemmas.Option.{cond_some, same_Some, slice_get_within}
use Rattle.std.specs.FinMap.{FinMap, get, find, get-insert, from_entries, get-from_entries, get-remove, insert, remove, same_map}
use Rattle.std.specs.List.{AllByRecursion}
use Rattle.std.specs.List.Sorted.{IsStrictlySortedBy}
use Rattle.std.specs.Map.{keys_of}
use Rattle.std.specs.Ordering.{eq_by_cmp, is_eq}
use Rattle.std.specs.declared.cmp.Ordering.TheVariants.{Less}
use Rattle.ebpf_base.proofs.Lists.{set_same, set_other, there_is}
use Rattle.ebpf_core_candidates.proofs.Refusals.{by_option, by_test}
use Rattle.ebpf_core.specs.declared.error.RelocationError.{RelocationError}
use Rattle.ebpf_core.specs.declared.field.LoadedField.{LoadedField}
use Rattle.ebpf_core.specs.declared.outcome.Outcome.{Outcome}
use Rattle.ebpf_parts.specs.Slots.{src_of}
use Rattle.ebpf_parts.specs.declared.insn.bpf_insn.{bpf_insn}
use Rattle.ebpf_base.proofs.Maps.{key_exact, is_equal}
use Rattle.ebpf_base.specs.Maps.{key_cmp, key_total}
use Rattle.ebpf_model.specs.declared.function.Function.{Function}
use Rattle.ebpf_btf_ext.specs.declared.relocation.Relocation.{Relocation}
use Rattle.ebpf_base.specs.Faults.{if_ok}
use Rattle.ebpf_core.specs.Searches.{outcome_of}
use Rattle.ebpf_core_relo.specs.RecordOutcomes.{goes_on}
use Rattle.ebpf_core_relo.specs.Carried.{slot_with_value, carrier_of, carrier_of_class, patched_slot, patched_next_slot, high_half, is_wide_load, may_resize, moved_code, poison, resized_code, size_bits, takes_next, written, CarriesAt, WrittenSlotsCarry, next_slot_written}
use Rattle.ebpf_core_relo.specs.declared.carried.Carrier.{Carrier}
use Rattle.ebpf_core_relo.specs.declared.carried.Carrier.TheVariants.{Immediate, Offset, WideLoad, Nothing}
use Rattle.ebpf_core_relo.specs.Records.{Written, with_slots, RelocationInputs, put_outcome, slots_so_far}
use Rattle.ebpf_core_relo.specs.PrivateContracts.{with_slots_at}
use Rattle.ebpf_core_relo.specs.declared.spans.Span.{Span}

-- ---- lists and answers

map_same : {X : Type 0} (o : Option X) (f : X → X) → ((x : X) → f x ≡ x) → option_map f o ≡ o
map_same None f h = refl
map_same (Some x) f h = ap Some (h x)

-- ---- a slot, and the one behind it

module _ (i : ℕ) (outcome : Outcome) (before : List bpf_insn) (old new : bpf_insn) (was : slice_get before i ≡ Some old) (carries : patched_slot outcome.value old outcome ≡ Some new) where
  -- what stands behind, by whether it is taken
  behind : (b : Bool) → takes_next outcome.value old ≡ b → (x : bpf_insn) → next_slot_written outcome.value old x ≡ (if b then patched_next_slot outcome.value x else x)
  behind b is x = ap (λ c. if c then patched_next_slot outcome.value x else x) is

  one_slot : takes_next outcome.value old ≡ false → CarriesAt i outcome before (slice_set before i new)
  one_slot alone = record {
    old = old;
    was = was;
    new = new;
    carries = carries;
    is = set_same before i new (slice_get_within before i old was);
    next = set_other before i (i + 1) new (λ e. omega arith) ∙ sym (map_same (slice_get before (i + 1)) (next_slot_written outcome.value old) (behind false alone));
    others = λ k a b. set_other before i k new a;
    as_many = length-set before i new;
  }

  two_slots : takes_next outcome.value old ≡ true → (next : bpf_insn) → slice_get before (i + 1) ≡ Some next
      → CarriesAt i outcome before (slice_set (slice_set before i new) (i + 1) (patched_next_slot outcome.value next))
  two_slots both next follows =
      let first = slice_set before i new in
      let second = patched_next_slot outcome.value next in
      let inside : i + 1 < length first = rw (length-set before i new) (slice_get_within before (i + 1) next follows) in
      record {
        old = old;
        was = was;
        new = new;
        carries = carries;
        is = set_other first (i + 1) i second (λ e. omega arith) ∙ set_same before i new (slice_get_within before i old was);
        next = set_same first (i + 1) second inside ∙ ap Some (sym (behind true both next)) ∙ sym (ap (option_map (next_slot_written outcome.value old)) follows);
        others = λ k a b. set_other first (i + 1) k second b ∙ set_other before i k new a;
        as_many = length-set first (i + 1) second ∙ length-set before i new;
      }

module _ (number : ℕ) (before : List bpf_insn) (i : ℕ) (outcome : Outcome) where
  abbrev Carries : Result (List bpf_insn) RelocationError → Type 0
  Carries r = IfOk r (CarriesAt i outcome before)

  carries : Carries (written number before i outcome)
  unfolding written
  carries =
      by_option Carries (slice_get before i) _ _ (λ none. tt)
      (λ old was. by_option Carries (patched_slot outcome.value old outcome) _ _ (λ none. tt)
      (λ new carry. by_test Carries (takes_next outcome.value old) _ _
      (λ both. by_option Carries (slice_get before (i + 1)) _ _ (λ none. tt) (λ next follows. two_slots i outcome before old new was carry both next follows))
      (λ alone. one_slot i outcome before old new was carry alone)))

  -- it can be written into slots of which there are as many and of which this one is the same
  module _ (own : List bpf_insn) (slot : slice_get before i ≡ slice_get own i) (as_many : length before ≡ length own) where
    abbrev Too : Result (List bpf_insn) RelocationError → Type 0
    Too r = IfOk r (λ after. (slots : List bpf_insn) × (written number own i outcome ≡ Ok slots))

    too : Too (written number before i outcome)
    unfolding written
    too =
        by_option Too (slice_get before i) _ _ (λ none. tt)
        (λ old was. by_option Too (patched_slot outcome.value old outcome) _ _ (λ none. tt)
        (λ new carry. by_test Too (takes_next outcome.value old) _ _
        (λ both. by_option Too (slice_get before (i + 1)) _ _ (λ none. tt) (λ next follows. two old new (sym slot ∙ was) carry both next follows))
        (λ alone. (slice_set own i new, rw (sym slot ∙ was, carry, alone) refl))))
      where
        two : (old new : bpf_insn) → slice_get own i ≡ Some old → patched_slot outcome.value old outcome ≡ Some new → takes_next outcome.value old ≡ true
            → (next : bpf_insn) → slice_get before (i + 1) ≡ Some next → (slots : List bpf_insn) × (written number own i outcome ≡ Ok slots)
        two old new was carry both next follows =
            let (behind, there) = there_is own (i + 1) (rw (← as_many) (slice_get_within before (i + 1) next follows)) in
            (slice_set (slice_set own i new) (i + 1) (patched_next_slot outcome.value behind), rw (was, carry, both, there) refl)

pub written_slots_carry : WrittenSlotsCarry
written_slots_carry number before after i outcome e = IfOk-at_ok (CarriesAt i outcome before) e (carries number before i outcome)

pub written_too : (number : ℕ) (before own after : List bpf_insn) (i : ℕ) (outcome : Outcome) → written number before i outcome ≡ Ok after
    → slice_get before i ≡ slice_get own i → length before ≡ length own → (slots : List bpf_insn) × (written number own i outcome ≡ Ok slots)
written_too number before own after i outcome e slot as_many = IfOk-at_ok (λ r. (slots : List bpf_insn) × (written number own i outcome ≡ Ok slots)) e (too number before i outcome own slot as_many)

-- ---- classes

with_bits : (code bits eighths : ℕ) → bits ≡ eighths * 8 → (code / 32 * 32 + bits + code % 8) % 8 ≡ code % 8
with_bits code bits eighths e =
    let whole : code / 32 * 32 + bits + code % 8 ≡ (code / 32 * 4 + eighths) * 8 + code % 8 = omega arith in
    ap (λ n. n % 8) whole ∙ mod-mul-add (code / 32 * 4 + eighths) 8 (code % 8) (mod_below code 8 (omega arith))

with_size_bits : (a b c d : Bool) (code bits : ℕ) → (if a then Some 0x18 else (if b then Some 0x00 else (if c then Some 0x08 else (if d then Some 0x10 else None)))) ≡ Some bits
    → (code / 32 * 32 + bits + code % 8) % 8 ≡ code % 8
with_size_bits true b c d code bits e = with_bits code bits 3 (sym (same_Some _ _ e))
with_size_bits false true c d code bits e = with_bits code bits 0 (sym (same_Some _ _ e))
with_size_bits false false true d code bits e = with_bits code bits 1 (sym (same_Some _ _ e))
with_size_bits false false false true code bits e = with_bits code bits 2 (sym (same_Some _ _ e))
with_size_bits false false false false code bits e = cc

resized_class : (code size moved : ℕ) → resized_code code size ≡ Some moved → moved % 8 ≡ code % 8
resized_class code size moved e = by_bits (size_bits size) refl e
  where
    by_bits : (o : Option ℕ) → size_bits size ≡ o → option_map (λ bits. code / 32 * 32 + bits + code % 8) o ≡ Some moved → moved % 8 ≡ code % 8
    by_bits None is e = cc
    by_bits (Some bits) is e = ap (λ n. n % 8) (sym (same_Some _ _ e)) ∙ with_size_bits (size == 8) (size == 4) (size == 2) (size == 1) code bits is

sized_class : (same may : Bool) (code size moved : ℕ) → (if same then Some code else (if may then resized_code code size else None)) ≡ Some moved → moved % 8 ≡ code % 8
sized_class true may code size moved e = ap (λ n. n % 8) (sym (same_Some _ _ e))
sized_class false true code size moved e = resized_class code size moved e
sized_class false false code size moved e = cc

moved_class : (code : ℕ) (local target : Option LoadedField) (moved : ℕ) → moved_code code local target ≡ Some moved → moved % 8 ≡ code % 8
unfolding moved_code
moved_class code None None moved e = ap (λ n. n % 8) (sym (same_Some _ _ e))
moved_class code None (Some target) moved e = cc
moved_class code (Some local) None moved e = cc
moved_class code (Some local) (Some target) moved e = sized_class (local.size == target.size) (may_resize local.class target.class) code target.size moved e

offset_class : (fits : Bool) (slot : bpf_insn) (n : ℕ) (o : Option ℕ) (new : bpf_insn) → ((code : ℕ) → o ≡ Some code → code % 8 ≡ slot.code % 8)
    → (if fits then option_map (λ code. record slot { code = code; off = pos n }) o else None) ≡ Some new → new.code % 8 ≡ slot.code % 8
offset_class true slot n None new same e = cc
offset_class true slot n (Some code) new same e = ap (λ (s : bpf_insn). s.code % 8) (sym (same_Some _ _ e)) ∙ same code refl
offset_class false slot n o new same e = cc

carried_class : (c : Carrier) (slot : bpf_insn) (n : ℕ) (outcome : Outcome) (new : bpf_insn) → slot_with_value c slot n outcome ≡ Some new → new.code % 8 ≡ slot.code % 8
unfolding slot_with_value
carried_class Immediate slot n outcome new e = ap (λ (s : bpf_insn). s.code % 8) (sym (cond_some (src_of slot == 0) _ new e).1)
carried_class Offset slot n outcome new e =
    offset_class (nat_lt n (2 ^ 15)) slot n (moved_code slot.code outcome.local outcome.target) new (λ code is. moved_class slot.code outcome.local outcome.target code is) e
carried_class WideLoad slot n outcome new e = ap (λ (s : bpf_insn). s.code % 8) (sym (same_Some _ _ e))
carried_class Nothing slot n outcome new e = cc

-- a slot that carries an outcome goes on in the next one only where it did so before
new_goes_on : (v : Option ℕ) (old new : bpf_insn) (outcome : Outcome) → patched_slot v old outcome ≡ Some new → goes_on (Some new) ≡ true → goes_on (Some old) ≡ true
new_goes_on None old new outcome e h = let never : false ≡ true = ap goes_on e ∙ h in cc
new_goes_on (Some n) old new outcome e h = ap (λ class. class == 0) (sym (carried_class (carrier_of old) old n outcome new e)) ∙ h

-- and so does the slot behind it
next_goes_on : (v : Option ℕ) (old next : bpf_insn) → goes_on (Some (next_slot_written v old next)) ≡ true → goes_on (Some next) ≡ true
next_goes_on v old next h =
    by_test (λ (x : bpf_insn). goes_on (Some x) ≡ true → goes_on (Some next) ≡ true) (takes_next v old) (patched_next_slot v next) next (λ both. behind v) (λ alone more. more) h
  where
    behind : (v : Option ℕ) → goes_on (Some (patched_next_slot v next)) ≡ true → goes_on (Some next) ≡ true
    behind None h = cc
    behind (Some n) h = h

mapped_goes_on : (v : Option ℕ) (old : bpf_insn) (o : Option bpf_insn) → goes_on (option_map (next_slot_written v old) o) ≡ true → goes_on o ≡ true
mapped_goes_on v old None h = h
mapped_goes_on v old (Some next) h = next_goes_on v old next h

-- each slot goes on in the next one only where it did so before
pub goes_on_before : (i : ℕ) (outcome : Outcome) (before after : List bpf_insn) → CarriesAt i outcome before after → (k : ℕ) → goes_on (slice_get after k) ≡ true → goes_on (slice_get before k) ≡ true
goes_on_before i outcome before after c k h = by_place (cases_eq k i) (cases_eq k (i + 1))
  where
    by_place : (k ≡ i) ⊎ (k ≢ i) → (k ≡ i + 1) ⊎ (k ≢ i + 1) → goes_on (slice_get before k) ≡ true
    by_place (inl first) other =
        let at : slice_get after k ≡ Some c.new = ap (slice_get after) first ∙ c.is in
        ap (λ j. goes_on (slice_get before j)) first ∙ ap goes_on c.was ∙ new_goes_on outcome.value c.old c.new outcome c.carries (sym (ap goes_on at) ∙ h)
    by_place (inr apart) (inl second) =
        ap (λ j. goes_on (slice_get before j)) second
        ∙ mapped_goes_on outcome.value c.old (slice_get before (i + 1)) (sym (ap goes_on (ap (slice_get after) second ∙ c.next)) ∙ h)
    by_place (inr apart) (inr other) = sym (ap goes_on (c.others k apart other)) ∙ h

-- what is not of class 0 is no wide load
narrow : (class : ℕ) → (class == 0) ≡ false → is_wide_load (carrier_of_class class) ≡ false
narrow class h = by_tests (class == 0) (class == 4) (class == 5) (class == 6) (class == 7) h
  where
    by_tests : (a b c d e : Bool) → a ≡ false
        → is_wide_load (if a then WideLoad else (if b then Immediate else (if c then Nothing else (if d then Nothing else (if e then Immediate else Offset))))) ≡ false
    by_tests true b c d e h = cc
    by_tests false true c d e h = refl
    by_tests false false true d e h = refl
    by_tests false false false true e h = refl
    by_tests false false false false true h = refl
    by_tests false false false false false h = refl

-- behind a slot that doesn't go on nothing changes
pub nothing_behind : (v : Option ℕ) (old next : bpf_insn) → goes_on (Some old) ≡ false → next_slot_written v old next ≡ next
nothing_behind None old next h = by_code (old.code == 0x18) refl
  where
    by_code : (b : Bool) → (old.code == 0x18) ≡ b → (if b then poison else next) ≡ next
    by_code true is = let goes : goes_on (Some old) ≡ true = ap (λ code. code % 8 == 0) (eqb-true old.code 0x18 is) in cc
    by_code false is = refl
nothing_behind (Some n) old next h = ap (λ b. if b then record next { imm = high_half n } else next) (narrow (old.code % 8) h)

-- ---- slots that take the places of those of functions

-- slots take the place of those of one function
at_key : (before : FinMap key_cmp Function) (key : ℕ × ℕ) (slots : List bpf_insn) (o : Option Function) → get before key ≡ o
    → (q : ℕ × ℕ) → get (with_slots_at before key slots o) q ≡ (if eq_by_cmp key_cmp q key then with_slots (Some slots) (get before q) else get before q)
at_key before key slots None none q = stays (eq_by_cmp key_cmp q key) refl
  where
    stays : (b : Bool) → eq_by_cmp key_cmp q key ≡ b → get before q ≡ (if b then with_slots (Some slots) (get before q) else get before q)
    stays true e =
        let here : get before q ≡ None = ap (get before) (key_exact q key (is_equal _ e)) ∙ none in
        here ∙ ap (with_slots (Some slots)) (sym here)
    stays false e = refl
at_key before key slots (Some f) some q = get-insert key_total before key (record f { instructions = slots }) q ∙ moves (eq_by_cmp key_cmp q key) refl
  where
    moves : (b : Bool) → eq_by_cmp key_cmp q key ≡ b → cond b (Some (record f { instructions = slots })) (get before q) ≡ (if b then with_slots (Some slots) (get before q) else get before q)
    moves true e = sym (ap (with_slots (Some slots)) (ap (get before) (key_exact q key (is_equal _ e)) ∙ some))
    moves false e = refl

-- a key below all keys of some entries has none of them
not_found : (k : ℕ × ℕ) (es : List ((ℕ × ℕ) × List bpf_insn)) → AllByRecursion (λ y. key_cmp k y ≡ Less) (keys_of es) → find key_cmp k es ≡ None
not_found k [] h = refl
not_found k (e ∷ es) h = ap (λ o. cond (is_eq o) (Some e.1) (find key_cmp k es)) h.0 ∙ not_found k es h.1

twice : (slots : List bpf_insn) (o : Option Function) → with_slots None (with_slots (Some slots) o) ≡ with_slots (Some slots) o
twice slots None = refl
twice slots (Some f) = refl

-- the slots of the first of some entries take their place, then those of the others
pub one_more : (before after : FinMap key_cmp Function) (key : ℕ × ℕ) (slots : List bpf_insn) (rest : List ((ℕ × ℕ) × List bpf_insn))
    → IsStrictlySortedBy key_cmp (keys_of ((key, slots) ∷ rest)) → after ≡ with_slots_at before key slots (get before key)
    → (q : ℕ × ℕ) → with_slots (find key_cmp q rest) (get after q) ≡ with_slots (find key_cmp q ((key, slots) ∷ rest)) (get before q)
unfolding IsStrictlySortedBy
one_more before after key slots rest sorted is q =
    ap (with_slots (find key_cmp q rest)) (ap (λ m. get m q) is ∙ at_key before key slots (get before key) refl q) ∙ by_key (eq_by_cmp key_cmp q key) refl
  where
    by_key : (b : Bool) → eq_by_cmp key_cmp q key ≡ b
        → with_slots (find key_cmp q rest) (if b then with_slots (Some slots) (get before q) else get before q) ≡ with_slots (cond b (Some slots) (find key_cmp q rest)) (get before q)
    by_key true e =
        let none : find key_cmp q rest ≡ None = ap (λ k. find key_cmp k rest) (key_exact q key (is_equal _ e)) ∙ not_found key rest sorted.0 in
        ap (λ w. with_slots w (with_slots (Some slots) (get before q))) none ∙ twice slots (get before q)
    by_key false e = refl

-- the entries of a map are what is there
pub all_found : (m : Written) (es : List ((ℕ × ℕ) × List bpf_insn)) → from_entries {R = key_cmp} es ≡ m → (q : ℕ × ℕ) → find key_cmp q es ≡ get m q
all_found m es is q = sym (get-from_entries key_total es q) ∙ ap (λ x. get x q) is

-- ---- slots taken out of a map and put back

by_case : {X : Type 0} (b : Bool) (v : X) (o : Option X) → cond b (Some v) (cond b None o) ≡ cond b (Some v) o
by_case true v o = refl
by_case false v o = refl

-- a value put where one was taken out stands as if it had been put over it
pub put_back : {X : Type 0} (m : FinMap key_cmp X) (key : ℕ × ℕ) (v : X) → insert (remove m key) key v ≡ insert m key v
put_back m key v = same_map key_total key_exact _ _ (λ q.
    get-insert key_total (remove m key) key v q
    ∙ ap (cond (eq_by_cmp key_cmp q key) (Some v)) (get-remove key_total m key q)
    ∙ by_case (eq_by_cmp key_cmp q key) v (get m q)
    ∙ sym (get-insert key_total m key v q))

-- what is put where a record's outcome is written into slots that were taken out
pub put_by : (inputs : RelocationInputs) (section : ℕ) (so_far left : Written) (r : Relocation) (span : Span) (outcome : Outcome) (before after : List bpf_insn)
    → outcome_of inputs.sides.local inputs.sides.target r ≡ Ok outcome
    → before ≡ slots_so_far inputs.functions so_far (section, span.address)
    → written r.number before ((r.insn_off - span.start) / 8) outcome ≡ Ok after
    → left ≡ insert (remove so_far (section, span.address)) (section, span.address) after
    → put_outcome inputs section so_far r span ≡ Ok left
unfolding put_outcome
put_by inputs section so_far left r span outcome before after is slots carried put =
    let at : ℕ × ℕ = (section, span.address) in
    let on = λ (w : Result (List bpf_insn) RelocationError). if_ok w (λ all. Ok (insert so_far at all)) in
    ap (λ o. if_ok o (λ x. on (written r.number (slots_so_far inputs.functions so_far at) ((r.insn_off - span.start) / 8) x))) is
    ∙ ap (λ b. on (written r.number b ((r.insn_off - span.start) / 8) outcome)) (sym slots)
    ∙ ap on carried
    ∙ ap Ok (sym (put ∙ put_back so_far at after))
