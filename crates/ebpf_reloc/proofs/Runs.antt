-- Relocations in the order of their offsets: written in place one after the other, and the first that can't be applied.
use Rattle.std.proofs.Common.{◌≡◌, ℕ, ◌<◌, ◌≤◌, ◌≢◌, Bool, true, false, cond, List, [], ◌∷◌, Some, None, Option, Result, Ok, Err, refl, sym, ap, ◌∙◌, arith, ◌&&◌, nat_le, zero, suc, ◌+◌, length, get_or-set_same, get_or-set_other, inl, inr, add-one, ◌-◌, ◌*◌, ◌/◌, ◌%◌, subst, nat_lt, if◌then◌else◌, ◌==◌}
use Rattle.std.specs.Prelude.{pos, option_map, unwrap_or}
use Rattle.std.specs.Ordering.{nat_cmp}
use Rattle.std.specs.declared.cmp.Ordering.TheVariants.{Less}
use Rattle.std.specs.Cmp.{ranked, unsigned_tied}
use Rattle.std.specs.FinMap.{find, get, get-entries, entries, FinMap, empty}
use Rattle.std.specs.List.{AllByRecursion}
use Rattle.std.specs.List.Sorted.{IsStrictlySortedBy}
use Rattle.std.specs.Map.{keys_of}
use Rattle.std.proofs.lemmas.Bool.{cases_eq}
use Rattle.std.proofs.lemmas.Bool.Decides.{nat_tests}
use Rattle.std.proofs.lemmas.List.{length-set, ext_get_or}
use Rattle.std.proofs.lemmas.List.FromFn.{get_or-map-range_with_len, length-map-range_with_len}
use Rattle.ebpf_base.proofs.Mapped.{map_values-identity, map_values-same_at}
use Rattle.ebpf_base.proofs.Maps.{entries-empty, entries_rise}
use Rattle.ebpf_base.specs.Maps.{entries_from, key_cmp, mapped_entries, map_values}
use Rattle.ebpf_base.specs.Faults.{first_some, or_else}
use Rattle.ebpf_elf.specs.declared.relocation.ElfRelocation.{ElfRelocation}
use Rattle.ebpf_model.specs.Walks.{entries_or_none}
use Rattle.ebpf_model.specs.declared.function.Function.{Function}
use Rattle.ebpf_model.specs.declared.symbol.Symbol.{Symbol}
use Rattle.ebpf_parts.specs.declared.insn.bpf_insn.{bpf_insn}
use Rattle.ebpf_reloc.specs.Relocated.{slot_or_zeros, edited, edited_next, found_slot, slot_after, slots_after_edit, slots_after, EditRule, SectionRelocations, edit_of, edit_by, edit_at, slots_after_relocations, slots_after_relocation, Relocations, relocations_of_section, is_in_slots, refused, refusal_at, first_refusal, function_fault, error_of, relocated, PassesKeepShapes, Pending, pending_slot, pending_of, pending_after, scan_on, scan, tried}
use Rattle.ebpf_reloc.specs.declared.edit.Edit.{Edit}
use Rattle.ebpf_reloc.specs.declared.edit.Edit.TheVariants.{Stay, Slot, Pair}
use Rattle.ebpf_reloc.specs.declared.edit.SlotFault.{SlotFault}
use Rattle.ebpf_reloc.specs.declared.edit.SlotFault.TheVariants.{InvalidOffset}
use Rattle.ebpf_reloc.specs.declared.edit.SlotRefusal.{SlotRefusal}

-- ---- relocations in the order of their offsets

-- the offsets rise, from one on
abbrev pub Rises : ℕ → List (ℕ × ElfRelocation) → Type 0
Rises low [] = Unit {0}
Rises low (e ∷ es) = (low ≤ e.0) × Rises (suc e.0) es

rises_after : (o : ℕ) (es : List (ℕ × ElfRelocation)) → AllByRecursion (λ k. nat_cmp o k ≡ Less) (keys_of es) → IsStrictlySortedBy nat_cmp (keys_of es) → Rises (suc o) es
unfolding IsStrictlySortedBy
rises_after o [] above up = tt
rises_after o (e ∷ es) above up = (ranked o e.0 Less (sym above.0), rises_after e.0 es up.0 up.1)

rises : (es : List (ℕ × ElfRelocation)) → IsStrictlySortedBy nat_cmp (keys_of es) → Rises 0 es
unfolding IsStrictlySortedBy
rises [] up = tt
rises (e ∷ es) up = (omega arith, rises_after e.0 es up.0 up.1)

find_other : (q : ℕ) (e : ℕ × ElfRelocation) (es : List (ℕ × ElfRelocation)) → q ≢ e.0 → find nat_cmp q (e ∷ es) ≡ find nat_cmp q es
find_other q e es ne =
    let other : (q == e.0) ≡ false = grind (arith, nat_tests) in
    rw (unsigned_tied q e.0, other) refl

find_head : (e : ℕ × ElfRelocation) (es : List (ℕ × ElfRelocation)) → find nat_cmp e.0 (e ∷ es) ≡ Some e.1
find_head e es =
    let same : (e.0 == e.0) ≡ true = grind (arith, nat_tests) in
    rw (unsigned_tied e.0 e.0, same) refl

find_below : (q low : ℕ) (es : List (ℕ × ElfRelocation)) → Rises low es → q < low → find nat_cmp q es ≡ None
find_below q low [] up lt = refl
find_below q low (e ∷ es) up lt = find_other q e es (λ same. absurd (omega (arith, up.0))) ∙ find_below q (suc e.0) es up.1 (omega (arith, up.0))

-- those from an offset on
rises_from : (start low from : ℕ) (es : List (ℕ × ElfRelocation)) → ((q : ℕ) → low ≤ q → start ≤ q → from ≤ q) → Rises low es → Rises from (entries_from start es)
rises_from start low from [] least up = tt
rises_from start low from (e ∷ es) least up =
    by (nat_le start e.0) refl (rises_from start (suc e.0) (suc e.0) es (λ q le at. le) up.1) (rises_from start (suc e.0) from es (λ q le at. least q (omega (arith, up.0)) at) up.1)
  where
    by : (b : Bool) → nat_le start e.0 ≡ b → Rises (suc e.0) (entries_from start es) → Rises from (entries_from start es) → Rises from (cond b (e ∷ entries_from start es) (entries_from start es))
    by true at rest others = (least e.0 up.0 (grind (arith, nat_tests)), rest)
    by false at rest others = others

find_from : (start q : ℕ) (es : List (ℕ × ElfRelocation)) → start ≤ q → find nat_cmp q (entries_from start es) ≡ find nat_cmp q es
find_from start q [] le = refl
find_from start q (e ∷ es) le = by (nat_le start e.0) refl (find_from start q es le)
  where
    by : (b : Bool) → nat_le start e.0 ≡ b → find nat_cmp q (entries_from start es) ≡ find nat_cmp q es → find nat_cmp q (cond b (e ∷ entries_from start es) (entries_from start es)) ≡ find nat_cmp q (e ∷ es)
    by true at rest = ap (cond (Rattle.std.specs.Ordering.eq_by_cmp nat_cmp q e.0) (Some e.1)) rest
    by false at rest = rest ∙ sym (find_other q e es (λ same. absurd (grind (arith, nat_tests))))

-- the first fault is the same, where those below the offset have none
first_from : {E : Type 0} (f : ℕ × ElfRelocation → Option E) (start : ℕ) (es : List (ℕ × ElfRelocation)) → ((e : ℕ × ElfRelocation) → nat_le start e.0 ≡ false → f e ≡ None) → first_some f (entries_from start es) ≡ first_some f es
first_from f start [] h = refl
first_from f start (e ∷ es) h = by (nat_le start e.0) refl (first_from f start es h)
  where
    by : (b : Bool) → nat_le start e.0 ≡ b → first_some f (entries_from start es) ≡ first_some f es → first_some f (cond b (e ∷ entries_from start es) (entries_from start es)) ≡ or_else (f e) (first_some f es)
    by true at rest = ap (or_else (f e)) rest
    by false at rest = rw (h e at) rest

all_none : {E : Type 0} (f : ℕ × ElfRelocation → Option E) (low : ℕ) (es : List (ℕ × ElfRelocation)) → Rises low es → ((e : ℕ × ElfRelocation) → low ≤ e.0 → f e ≡ None) → first_some f es ≡ None
all_none f low [] up h = refl
all_none f low (e ∷ es) up h = rw (h e up.0) (all_none f (suc e.0) es up.1 (λ d le. h d (omega (arith, up.0))))

module _ (section_relocations : SectionRelocations) (start : ℕ) where
  -- some relocations are those that stand from slot p on
  pub record AreLeft (p : ℕ) (es : List (ℕ × ElfRelocation)) : Type 0 where
    pub low : ℕ
    pub from : start ≤ low
    pub near : start + 8 * p ≤ low + 7
    pub up : Rises low es
    pub known : (k : ℕ) → p ≤ k → get section_relocations (start + 8 * k) ≡ find nat_cmp (start + 8 * k) es

  -- at first all from the first slot on
  pub all_left : AreLeft 0 (entries_from start (entries section_relocations))
  all_left = record {
    low = start;
    from = omega arith;
    near = omega arith;
    up = rises_from start 0 start (entries section_relocations) (λ q le at. at) (rises (entries section_relocations) (entries_rise section_relocations));
    known = λ k le. get-entries section_relocations (start + 8 * k) ∙ sym (find_from start (start + 8 * k) (entries section_relocations) (omega arith));
  }

  -- where none is left, no slot has one
  none_left : (p k : ℕ) → AreLeft p [] → p ≤ k → get section_relocations (start + 8 * k) ≡ None
  none_left p k left le = left.known k le

  module _ (e : ℕ × ElfRelocation) (es : List (ℕ × ElfRelocation)) (p : ℕ) (left : AreLeft p (e ∷ es)) where
    -- a slot before the first of them has none
    pub none_before : (k : ℕ) → p ≤ k → start + 8 * k < e.0 → get section_relocations (start + 8 * k) ≡ None
    none_before k le lt =
        left.known k le
        ∙ find_other (start + 8 * k) e es (λ same. absurd (omega arith))
        ∙ find_below (start + 8 * k) (suc e.0) es left.up.1 (omega arith)

    -- the slot at which it stands
    pub stands_at : (k : ℕ) → e.0 ≡ start + 8 * k → get section_relocations (start + 8 * k) ≡ Some e.1
    stands_at k here =
        let le : p ≤ k = omega (arith, left.near, left.up.0) in
        left.known k le ∙ ap (λ q. find nat_cmp q (e ∷ es)) (sym here) ∙ find_head e es

    -- the others, from a slot on past which it doesn't stand
    pub others_left : (n : ℕ) → p ≤ n → start + 8 * n ≤ suc e.0 + 7 → ((k : ℕ) → n ≤ k → (start + 8 * k) ≢ e.0) → AreLeft n es
    others_left n le near apart = record {
      low = suc e.0;
      from = omega (arith, left.from, left.up.0);
      near = near;
      up = left.up.1;
      known = λ k at. left.known k (omega arith) ∙ find_other (start + 8 * k) e es (apart k at);
    }

-- what holds at a slot holds at a later one, where it is kept from each of those between to the next
passed : (P : ℕ → Type 0) (p n : ℕ) → p ≤ n → ((k : ℕ) → p ≤ k → k < n → P k → P (suc k)) → P p → P n
passed P p n le keep at = on (n - p) p (omega arith) (omega arith) at
  where
    on : (d k : ℕ) → k + d ≡ n → p ≤ k → P k → P n
    on zero k is from at = let same : k ≡ n = omega arith in subst P same at
    on (suc d) k is from at = on d (suc k) (omega arith) (omega arith) (keep k from (omega arith) at)

-- ---- an edit in place

abbrev zeros : bpf_insn
zeros = record { code = 0; regs = 0; off = pos 0; imm = pos 0 }

module _ (slots : List bpf_insn) (p : ℕ) where
  length-slots_after_edit : (e : Edit) → length (slots_after_edit slots p e) ≡ length slots
  length-slots_after_edit Stay = refl
  length-slots_after_edit (Slot made) = length-set slots p made
  length-slots_after_edit (Pair made next) = length-set _ p made ∙ length-set slots (p + 1) _

  at_edit : (e : Edit) → p < length slots → slot_or_zeros (slots_after_edit slots p e) p ≡ edited e (slot_or_zeros slots p)
  at_edit Stay lt = refl
  at_edit (Slot made) lt = get_or-set_same slots p made zeros lt
  at_edit (Pair made next) lt = get_or-set_same _ p made zeros (omega (arith, length-set slots (p + 1) (record (slot_or_zeros slots (p + 1)) { imm = next })))

  after_edit : (e : Edit) → suc p < length slots → slot_or_zeros (slots_after_edit slots p e) (suc p) ≡ edited_next e (slot_or_zeros slots (suc p))
  after_edit Stay lt = refl
  after_edit (Slot made) lt = get_or-set_other slots p (suc p) made zeros (λ e. absurd (omega arith))
  after_edit (Pair made next) lt =
      get_or-set_other _ p (suc p) made zeros (λ e. absurd (omega arith))
      ∙ rw add-one (get_or-set_same slots (suc p) (record (slot_or_zeros slots (suc p)) { imm = next }) zeros lt)

  elsewhere : (e : Edit) (k : ℕ) → k ≢ p → k ≢ suc p → slot_or_zeros (slots_after_edit slots p e) k ≡ slot_or_zeros slots k
  elsewhere Stay k off far = refl
  elsewhere (Slot made) k off far = get_or-set_other slots p k made zeros off
  elsewhere (Pair made next) k off far =
      get_or-set_other _ p k made zeros off ∙ get_or-set_other slots (p + 1) k _ zeros (λ e. far (omega arith))

-- ---- edits in order, written in place one after the other, give the slots of the definition

module _ (edit : ℕ → bpf_insn → Edit) (old : List bpf_insn) where
  -- the edits before slot p are made
  record AreMade (p : ℕ) (new : List bpf_insn) : Type 0 where
    as_many : length new ≡ length old
    before : (k : ℕ) → k < p → k < length old → slot_or_zeros new k ≡ slot_after edit old k
    here : p < length old → slot_or_zeros new p ≡ found_slot edit old p
    after : (k : ℕ) → p < k → slot_or_zeros new k ≡ slot_or_zeros old k

  none_made : AreMade 0 old
  none_made = record { as_many = refl; before = λ k lt in_old. absurd (omega arith); here = λ lt. refl; after = λ k lt. refl }

  one_made : (p : ℕ) (new : List bpf_insn) (e : Edit) → p < length old → e ≡ edit p (slot_or_zeros new p) → AreMade p new → AreMade (suc p) (slots_after_edit new p e)
  one_made p new e inside is made = record {
    as_many = length-slots_after_edit new p e ∙ made.as_many;
    before = λ k lt in_old. elim (cases_eq k p) [
      | inl same ↦ rw same (at_edit new p e (omega (arith, made.as_many)) ∙ ap (edited e) own ∙ ap (λ x. edited x (found_slot edit old p)) makes)
      | inr off ↦ elsewhere new p e k off (λ next. absurd (omega arith)) ∙ made.before k (omega arith) in_old
    ];
    here = λ lt.
        after_edit new p e (omega (arith, made.as_many))
        ∙ ap (edited_next e) (made.after (suc p) (omega arith))
        ∙ ap (λ x. edited_next x (slot_or_zeros old (suc p))) makes;
    after = λ k lt. elsewhere new p e k (λ same. absurd (omega arith)) (λ same. absurd (omega arith)) ∙ made.after k (omega arith);
  }
    where
      own : slot_or_zeros new p ≡ found_slot edit old p
      own = made.here inside

      makes : e ≡ edit p (found_slot edit old p)
      makes = is ∙ ap (edit p) own

  all_made : (new : List bpf_insn) → AreMade (length old) new → new ≡ slots_after edit old
  unfolding slots_after
  all_made new made = ext_get_or zeros new _ (made.as_many ∙ sym (length-map-range_with_len (slot_after edit old) 0 (length old))) (λ k lt.
      let inside : k < length old = omega (arith, made.as_many) in
      let from : 0 + k ≡ k = omega arith in
      made.before k inside inside ∙ sym (get_or-map-range_with_len (slot_after edit old) 0 (length old) k k zeros inside from))

module _ (rule_edit : EditRule) (section_relocations : SectionRelocations) (start : ℕ) (old : List bpf_insn) where
  abbrev edit : ℕ → bpf_insn → Edit
  edit = edit_at rule_edit section_relocations start (length old)

  -- a slot without a relocation, and one with one
  no_edit : (k : ℕ) (s : bpf_insn) → get section_relocations (start + 8 * k) ≡ None → edit k s ≡ Stay
  no_edit k s none = ap (λ o. edit_by rule_edit o s (nat_lt (k + 1) (length old))) none

  pub one_edit : (k : ℕ) (s : bpf_insn) (r : ElfRelocation) → get section_relocations (start + 8 * k) ≡ Some r → edit k s ≡ edit_of (rule_edit r s (nat_lt (k + 1) (length old)))
  one_edit k s r is = ap (λ o. edit_by rule_edit o s (nat_lt (k + 1) (length old))) is

  -- slots without relocations are passed over
  made_on : (p n : ℕ) (slots : List bpf_insn) → p ≤ n → n ≤ length old → ((k : ℕ) → p ≤ k → k < n → get section_relocations (start + 8 * k) ≡ None) → AreMade edit old p slots → AreMade edit old n slots
  made_on p n slots le inside none made =
      passed (λ k. AreMade edit old k slots) p n le (λ k from lt at. one_made edit old k slots Stay (omega arith) (sym (no_edit k (slot_or_zeros slots k) (none k from lt))) at) made

  runs : (es : List (ℕ × ElfRelocation)) (p : ℕ) (slots : List bpf_insn) → p ≤ length old → AreLeft section_relocations start p es → AreMade edit old p slots → AreMade edit old (length old) (slots_after_relocations rule_edit start es slots)
  runs [] p slots le left made = made_on p (length old) slots le (omega arith) (λ k from lt. none_left section_relocations start p k left from) made
  runs (e ∷ es) p slots le left made = by_cases _ _ refl refl (λ n next. runs es n next)
    where
      by_cases : (b c : Bool) → nat_lt ((e.0 - start) / 8) (length slots) ≡ b → ((e.0 - start) % 8 == 0) ≡ c
          → ((n : ℕ) (next : List bpf_insn) → n ≤ length old → AreLeft section_relocations start n es → AreMade edit old n next → AreMade edit old (length old) (slots_after_relocations rule_edit start es next))
          → AreMade edit old (length old) (if b then slots_after_relocations rule_edit start es (if c then slots_after_edit slots ((e.0 - start) / 8) (edit_of (rule_edit e.1 (slot_or_zeros slots ((e.0 - start) / 8)) (nat_lt ((e.0 - start) / 8 + 1) (length slots)))) else slots) else slots)
      by_cases false c past aligned later =
          made_on p (length old) slots le (omega arith) (λ k from lt. none_before section_relocations start e es p left k from (grind (arith, nat_tests, made.as_many))) made
      by_cases true false inside aligned later =
          later p slots le (others_left section_relocations start e es p left p (omega arith) (omega (arith, left.near, left.up.0)) (λ k from same. absurd (grind (arith, nat_tests)))) made
      by_cases true true inside aligned later =
          let n : ℕ = (e.0 - start) / 8 in
          let here : e.0 ≡ start + 8 * n = grind (arith, nat_tests, left.from, left.up.0) in
          let within : n < length old = grind (arith, nat_tests, made.as_many) in
          let from : p ≤ n = omega (arith, left.near, left.up.0) in
          let s : bpf_insn = slot_or_zeros slots n in
          later (suc n) _ within
          (others_left section_relocations start e es p left (suc n) (omega arith) (omega arith) (λ k past same. absurd (omega arith)))
          (one_made edit old n slots _ within
          (ap (λ l. edit_of (rule_edit e.1 s (nat_lt (n + 1) l))) made.as_many ∙ sym (one_edit n s e.1 (stands_at section_relocations start e es p left n here)))
          (made_on p n slots from (omega arith) (λ k low lt. none_before section_relocations start e es p left k low (omega arith)) made))

  -- the relocations from the first slot on, in order, make the slots of the definition
  pub run_makes : slots_after_relocations rule_edit start (entries_from start (entries section_relocations)) old ≡ slots_after edit old
  run_makes = all_made edit old _ (runs (entries_from start (entries section_relocations)) 0 old (omega arith) (all_left section_relocations start) (none_made edit old))

-- ---- the first relocation that can't be applied, found with what the edit before it leaves

-- what an edit leaves is found by the next slot
left_next : (edit : Edit) (j : ℕ) (s : bpf_insn) → edited_next edit s ≡ pending_slot (pending_of j edit) (suc j) s
left_next Stay j s = refl
left_next (Slot made) j s = refl
left_next (Pair made next) j s =
    let same : (j + 1 == suc j) ≡ true = grind (arith, nat_tests) in
    rw same refl

-- and by no later one
left_later : (edit : Edit) (j k : ℕ) (s : bpf_insn) → suc j < k → pending_slot (pending_of j edit) k s ≡ s
left_later Stay j k s lt = refl
left_later (Slot made) j k s lt = refl
left_later (Pair made next) j k s lt =
    let other : (j + 1 == k) ≡ false = grind (arith, nat_tests) in
    rw other refl

module _ (rule_edit : EditRule) (section_relocations : SectionRelocations) (start : ℕ) (slots : List bpf_insn) where
  abbrev makes : ℕ → bpf_insn → Edit
  makes = edit_at rule_edit section_relocations start (length slots)

  abbrev fault : ℕ × ElfRelocation → Option SlotRefusal
  fault = refusal_at rule_edit section_relocations start slots

  -- slot p is found with what is pending, which no later one is
  pub record IsPending (p : ℕ) (pending : Pending) : Type 0 where
    pub found : found_slot makes slots p ≡ pending_slot pending p (slot_or_zeros slots p)
    pub later : (k : ℕ) (s : bpf_insn) → p < k → pending_slot pending k s ≡ s

  -- slots without relocations are passed over
  pub pending_on : (p n : ℕ) (pending : Pending) → p ≤ n → ((k : ℕ) → p ≤ k → k < n → get section_relocations (start + 8 * k) ≡ None) → IsPending p pending → IsPending n pending
  pending_on p n pending le none is = passed (λ k. IsPending k pending) p n le (λ k from lt at. record {
    found = ap (λ x. edited_next x (slot_or_zeros slots (suc k))) (no_edit rule_edit section_relocations start slots k (found_slot makes slots k) (none k from lt)) ∙ sym (at.later (suc k) (slot_or_zeros slots (suc k)) (omega arith));
    later = λ j s past. at.later j s (omega arith);
  }) is

  -- what the edit of slot p leaves is pending at the next
  pub pending_next : (p : ℕ) (made : Edit) → makes p (found_slot makes slots p) ≡ made → IsPending (suc p) (pending_of p made)
  pending_next p made is = record {
    found = ap (λ x. edited_next x (slot_or_zeros slots (suc p))) is ∙ left_next made p (slot_or_zeros slots (suc p));
    later = λ k s past. left_later made p k s past;
  }

  scanned : (es : List (ℕ × ElfRelocation)) (p : ℕ) (pending : Pending) → AreLeft section_relocations start p es → IsPending p pending → scan rule_edit start slots pending es ≡ first_some fault es
  scanned [] p pending left is = refl
  scanned (e ∷ es) p pending left is = by_cases _ _ _ refl refl refl (λ n next. scanned es n next)
    where
      by_result : ((n : ℕ) (next : Pending) → AreLeft section_relocations start n es → IsPending n next → scan rule_edit start slots next es ≡ first_some fault es)
          → (n : ℕ) (r : Result Edit SlotFault) → e.0 ≡ start + 8 * n → rule_edit e.1 (found_slot makes slots n) (nat_lt (n + 1) (length slots)) ≡ r
          → scan_on e (pending_after n r) (λ next. scan rule_edit start slots next es) ≡ or_else (refused e r) (first_some fault es)
      by_result later n (Err f) here gives = refl
      by_result later n (Ok made) here gives =
          later (suc n) (pending_of n made)
          (others_left section_relocations start e es p left (suc n) (omega (arith, left.near, left.up.0)) (omega arith) (λ k past same. absurd (omega arith)))
          (pending_next n made (one_edit rule_edit section_relocations start slots n (found_slot makes slots n) e.1 (stands_at section_relocations start e es p left n here) ∙ ap edit_of gives))

      by_cases : (a b c : Bool) → nat_le start e.0 ≡ a → nat_lt ((e.0 - start) / 8) (length slots) ≡ b → ((e.0 - start) % 8 == 0) ≡ c
          → ((n : ℕ) (next : Pending) → AreLeft section_relocations start n es → IsPending n next → scan rule_edit start slots next es ≡ first_some fault es)
          → (if b then scan_on e (if c then pending_after ((e.0 - start) / 8) (rule_edit e.1 (pending_slot pending ((e.0 - start) / 8) (slot_or_zeros slots ((e.0 - start) / 8))) (nat_lt ((e.0 - start) / 8 + 1) (length slots))) else Err InvalidOffset) (λ next. scan rule_edit start slots next es) else None)
          ≡ or_else (if a && b then (if c then refused e (rule_edit e.1 (found_slot makes slots ((e.0 - start) / 8)) (nat_lt ((e.0 - start) / 8 + 1) (length slots))) else refused e (Err InvalidOffset)) else None) (first_some fault es)
      by_cases false b c at inside aligned later = absurd (grind (arith, nat_tests, left.from, left.up.0))
      by_cases true false c at past aligned later = sym (all_none fault (suc e.0) es left.up.1 (λ f above.
          let out : is_in_slots start (length slots) f.0 ≡ false = grind (arith, nat_tests) in
          rw out refl))
      by_cases true true false at inside aligned later = refl
      by_cases true true true at inside aligned later =
          let n : ℕ = (e.0 - start) / 8 in
          let here : e.0 ≡ start + 8 * n = grind (arith, nat_tests) in
          let now = pending_on p n pending (omega (arith, left.near, left.up.0)) (λ k low lt. none_before section_relocations start e es p left k low (omega arith)) is in
          ap (λ s. scan_on e (pending_after n (rule_edit e.1 s (nat_lt (n + 1) (length slots)))) (λ next. scan rule_edit start slots next es)) (sym now.found)
          ∙ by_result later n _ here refl

  -- the search over the relocations from the first slot on finds the first of all that can't be applied
  finds_first : scan rule_edit start slots None (entries_from start (entries section_relocations)) ≡ first_some fault (entries section_relocations)
  finds_first =
      scanned (entries_from start (entries section_relocations)) 0 None (all_left section_relocations start) (record { found = refl; later = λ k s past. refl })
      ∙ first_from fault start (entries section_relocations) (λ e out. rw out refl)

-- of a function: by its relocations from its first slot on
pub first_scanned : (rule_edit : EditRule) (section_relocations : SectionRelocations) (f : Function)
    → scan rule_edit f.section_offset f.instructions None (entries_from f.section_offset (entries section_relocations)) ≡ first_refusal rule_edit section_relocations f
unfolding first_refusal
first_scanned rule_edit section_relocations f = finds_first rule_edit section_relocations f.section_offset f.instructions

-- ---- what is tried along a walk

-- a section without relocations is one with an empty table of them
pub entries_kept : (section_relocations : Option (FinMap nat_cmp ElfRelocation)) → entries_or_none section_relocations ≡ entries (unwrap_or section_relocations empty)
entries_kept None = sym (entries-empty nat_cmp ElfRelocation)
entries_kept (Some section_relocations) = refl

module _ (rule_edit : EditRule) (start : ℕ) (slots : List bpf_insn) (e : ℕ × ElfRelocation) (inside : nat_lt ((e.0 - start) / 8) (length slots) ≡ true) where
  -- one that can be applied is passed over
  pub tried_on : (pending next : Pending) (rest : List (ℕ × ElfRelocation)) → tried rule_edit slots pending (e.0 - start) e.1 ≡ Ok next
      → scan rule_edit start slots pending (e ∷ rest) ≡ scan rule_edit start slots next rest
  tried_on pending next rest is = rw (inside, is) refl

  -- it stands before the end of the slots
  pub before_end : e.0 < start + 8 * length slots
  before_end = grind (arith, nat_tests)

-- ---- relocations that leave the slots as they are

-- one that leaves them is passed over
pub stays_on : (rule_edit : EditRule) (start : ℕ) (e : ℕ × ElfRelocation) (es : List (ℕ × ElfRelocation)) (slots : List bpf_insn)
    → nat_lt ((e.0 - start) / 8) (length slots) ≡ true → slots_after_relocation rule_edit (e.0 - start) e.1 slots ≡ slots → slots_after_relocations rule_edit start (e ∷ es) slots ≡ slots_after_relocations rule_edit start es slots
stays_on rule_edit start e es slots inside stays = rw inside (ap (slots_after_relocations rule_edit start es) stays)

-- one past the slots leaves them
pub stays_past : (rule_edit : EditRule) (start : ℕ) (e : ℕ × ElfRelocation) (es : List (ℕ × ElfRelocation)) (slots : List bpf_insn)
    → nat_lt ((e.0 - start) / 8) (length slots) ≡ false → slots_after_relocations rule_edit start (e ∷ es) slots ≡ slots
stays_past rule_edit start e es slots past = rw past refl

-- where all leave them, so does the definition
pub stays_all : (rule_edit : EditRule) (section_relocations : SectionRelocations) (start : ℕ) (slots : List bpf_insn)
    → slots_after_relocations rule_edit start (entries_from start (entries section_relocations)) slots ≡ slots → slots_after (edit_at rule_edit section_relocations start (length slots)) slots ≡ slots
stays_all rule_edit section_relocations start slots stays = sym (run_makes rule_edit section_relocations start slots) ∙ stays

module _ (f : Function → Function) where
  -- one more function that stays
  pub one_stays : (e : (ℕ × ℕ) × Function) (es : List ((ℕ × ℕ) × Function)) → f e.1 ≡ e.1 → mapped_entries f es ≡ es → mapped_entries f (e ∷ es) ≡ e ∷ es
  one_stays e es stays rest = ap (λ v. (e.0, v) ∷ mapped_entries f es) stays ∙ ap (λ r. e ∷ r) rest

  -- where each stays, all stay
  pub all_stay : (m : FinMap key_cmp Function) → mapped_entries f (entries m) ≡ entries m → map_values f m ≡ m
  all_stay m stays = map_values-same_at f (λ v. v) m (stays ∙ sym (entries_same (entries m))) ∙ map_values-identity m
    where
      entries_same : (es : List ((ℕ × ℕ) × Function)) → mapped_entries (λ v. v) es ≡ es
      entries_same [] = refl
      entries_same (e ∷ es) = ap (λ r. e ∷ r) (entries_same es)

-- ---- a function in a section without relocations

module _ (rule_edit : EditRule) (relocations : Relocations) (f : Function) (none : None ≡ get relocations f.section_index.0) where
  kept_none : relocations_of_section relocations f ≡ empty
  kept_none = ap (λ o. unwrap_or o empty) (sym none)

  no_refusal : first_refusal rule_edit empty f ≡ None
  unfolding first_refusal
  no_refusal = ap (first_some (refusal_at rule_edit empty f.section_offset f.instructions)) (entries-empty nat_cmp ElfRelocation)

  pub no_fault : (symbols : FinMap nat_cmp Symbol) → function_fault rule_edit symbols relocations f ≡ None
  no_fault symbols = ap (option_map (λ r. record { function = f.name; error = error_of symbols (relocations_of_section relocations f) r })) (ap (λ k. first_refusal rule_edit k f) kept_none ∙ no_refusal)

  none_written : f.instructions ≡ slots_after (edit_at rule_edit empty f.section_offset (length f.instructions)) f.instructions
  none_written =
      sym (ap (λ es. slots_after_relocations rule_edit f.section_offset (entries_from f.section_offset es) f.instructions) (entries-empty nat_cmp ElfRelocation))
      ∙ run_makes rule_edit empty f.section_offset f.instructions

  pub stays : f ≡ relocated rule_edit relocations f
  unfolding relocated
  stays =
      ap (λ slots. record f { instructions = slots }) none_written
      ∙ ap (λ k. record f { instructions = slots_after (edit_at rule_edit k f.section_offset (length f.instructions)) f.instructions }) (sym kept_none)

-- ---- as many slots as before

as_many : (edit : ℕ → bpf_insn → Edit) (slots : List bpf_insn) → length (slots_after edit slots) ≡ length slots
unfolding slots_after
as_many edit slots = length-map-range_with_len (slot_after edit slots) 0 (length slots)

pub shapes_stay : PassesKeepShapes
unfolding relocated
shapes_stay rule_edit relocations f = record {
  others = refl;
  slots = as_many (edit_at rule_edit (relocations_of_section relocations f) f.section_offset (length f.instructions)) f.instructions;
}
