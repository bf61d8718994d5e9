-- The outcomes of relocations: scanned in the order of their offsets, their first refusal, and the slots that they leave.
use Rattle.std.proofs.Common.{◌≡◌, ℕ, ◌≤◌, Bool, true, false, cond, List, [], ◌∷◌, ◌++◌, Some, None, Option, Result, Ok, Err, refl, sym, ap, ◌∙◌, arith, ◌&&◌, nat_le, suc, ◌+◌, length, ◌-◌, ◌*◌, ◌/◌, ◌%◌, nat_lt, if◌then◌else◌, ◌==◌}
use Rattle.std.specs.Prelude.{option_map, option_to_list}
use Rattle.std.specs.FinMap.{FinMap, entries, find, get, get-entries}
use Rattle.std.specs.List.{AllByRecursion, cons_option, filter_map, flat_map}
use Rattle.std.specs.List.Sorted.{IsStrictlySortedBy}
use Rattle.std.specs.Map.{keys_of}
use Rattle.std.specs.Ordering.{nat_cmp, ordering_reverse, is_eq}
use Rattle.std.specs.declared.cmp.Ordering.{Ordering}
use Rattle.std.specs.declared.cmp.Ordering.TheVariants.{Less, Equal, Greater}
use Rattle.std.proofs.lemmas.Bool.Decides.{nat_tests}
use Rattle.std.proofs.lemmas.List.{append_assoc}
use Rattle.ebpf_base.proofs.Faults.{first_some-append}
use Rattle.ebpf_base.proofs.Maps.{entries_rise}
use Rattle.ebpf_base.specs.Faults.{first_some, or_else}
use Rattle.ebpf_base.specs.Maps.{entries_from, key_cmp, key_total}
use Rattle.ebpf_elf.specs.declared.relocation.ElfRelocation.{ElfRelocation}
use Rattle.ebpf_model.specs.Symbols.{FunctionKey}
use Rattle.ebpf_model.specs.declared.error.EbpfRelocationError.{EbpfRelocationError}
use Rattle.ebpf_model.specs.declared.function.Function.{Function}
use Rattle.ebpf_model.specs.declared.symbol.Symbol.{Symbol}
use Rattle.ebpf_parts.specs.declared.insn.bpf_insn.{bpf_insn}
use Rattle.ebpf_reloc.proofs.Runs.{AreLeft, IsPending, Rises, all_left, none_before, one_edit, others_left, pending_next, pending_on, stands_at}
use Rattle.ebpf_reloc.specs.Relocated.{EditRule, Pending, Relocations, SectionRelocations, edit_at, edit_by, edit_of, error_of, first_fault, first_refusal, found_slot, function_fault, is_in_slots, pending_of, pending_slot, refusal_at, refused, relocations_of_section, slot_or_zeros}
use Rattle.ebpf_reloc.specs.SlotOutcomes.{EditsAsSaid, FirstRefusedOutcome, edit_said, found_result, outcome_at, outcome_by, outcome_error, outcome_if, outcomes_in, outcomes_of, outcomes_scanned, pending_past}
use Rattle.ebpf_reloc.specs.declared.edit.Edit.{Edit}
use Rattle.ebpf_reloc.specs.declared.edit.Edit.TheVariants.{Stay, Slot, Pair}
use Rattle.ebpf_reloc.specs.declared.edit.SlotFault.{SlotFault}
use Rattle.ebpf_reloc.specs.declared.edit.SlotFault.TheVariants.{InvalidOffset}
use Rattle.ebpf_reloc.specs.declared.edit.SlotRefusal.{SlotRefusal}
use Rattle.ebpf_reloc.specs.declared.slot_outcomes.SlotOutcome.{SlotOutcome}

-- ---- lists

-- what is given of the entries from an offset on is all, where those below give nothing
kept_from : {X : Type 0} (h : ℕ × ElfRelocation → Option X) (start : ℕ) (es : List (ℕ × ElfRelocation)) → ((e : ℕ × ElfRelocation) → nat_le start e.0 ≡ false → h e ≡ None) → filter_map h (entries_from start es) ≡ filter_map h es
kept_from h start [] none = refl
kept_from h start (e ∷ es) none = by (nat_le start e.0) refl (kept_from h start es none)
  where
    by : (b : Bool) → nat_le start e.0 ≡ b → filter_map h (entries_from start es) ≡ filter_map h es → filter_map h (cond b (e ∷ entries_from start es) (entries_from start es)) ≡ cons_option (h e) (filter_map h es)
    by true at rest = ap (cons_option (h e)) rest
    by false at rest = rw (none e at) rest

-- nothing is given of entries past a number
all_past : {X : Type 0} (h : ℕ × ElfRelocation → Option X) (low : ℕ) (es : List (ℕ × ElfRelocation)) → Rises low es → ((e : ℕ × ElfRelocation) → low ≤ e.0 → h e ≡ None) → filter_map h es ≡ []
all_past h low [] up none = refl
all_past h low (e ∷ es) up none = rw (none e up.0) (all_past h (suc e.0) es up.1 (λ d le. none d (omega (arith, up.0))))

-- ---- relocations scanned in the order of their offsets give the outcomes of the definition

module _ (rule_edit : EditRule) (section_relocations : SectionRelocations) (key : FunctionKey) (start : ℕ) (slots : List bpf_insn) where
  abbrev makes : ℕ → bpf_insn → Edit
  makes = edit_at rule_edit section_relocations start (length slots)

  abbrev outcome : ℕ × ElfRelocation → Option SlotOutcome
  outcome = outcome_at rule_edit section_relocations key start slots

  scanned : (es : List (ℕ × ElfRelocation)) (p : ℕ) (pending : Pending) → AreLeft section_relocations start p es → IsPending rule_edit section_relocations start slots p pending
      → outcomes_scanned rule_edit key start slots pending es ≡ filter_map outcome es
  scanned [] p pending left is = refl
  scanned (e ∷ es) p pending left is = by_cases _ _ _ refl refl refl (λ n next. scanned es n next)
    where
      Later : Type 0
      Later = (n : ℕ) (next : Pending) → AreLeft section_relocations start n es → IsPending rule_edit section_relocations start slots n next → outcomes_scanned rule_edit key start slots next es ≡ filter_map outcome es

      by_result : Later → (n : ℕ) (r : Result Edit SlotFault) → e.0 ≡ start + 8 * n → rule_edit e.1 (found_slot makes slots n) (nat_lt (n + 1) (length slots)) ≡ r
          → cons_option (outcome_if key start e r) (outcomes_scanned rule_edit key start slots (pending_of n (edit_of r)) es) ≡ cons_option (outcome_if key start e r) (filter_map outcome es)
      by_result later n r here gives =
          ap (cons_option (outcome_if key start e r))
          (later (suc n) (pending_of n (edit_of r))
          (others_left section_relocations start e es p left (suc n) (omega (arith, left.near, left.up.0)) (omega arith) (λ k past same. absurd (omega arith)))
          (pending_next rule_edit section_relocations start slots n (edit_of r) (one_edit rule_edit section_relocations start slots n (found_slot makes slots n) e.1 (stands_at section_relocations start e es p left n here) ∙ ap edit_of gives)))

      by_cases : (a b c : Bool) → nat_le start e.0 ≡ a → nat_lt ((e.0 - start) / 8) (length slots) ≡ b → ((e.0 - start) % 8 == 0) ≡ c → Later
          → (if b then cons_option (outcome_if key start e (if c then rule_edit e.1 (pending_slot pending ((e.0 - start) / 8) (slot_or_zeros slots ((e.0 - start) / 8))) (nat_lt ((e.0 - start) / 8 + 1) (length slots)) else Err InvalidOffset))
          (outcomes_scanned rule_edit key start slots (if c then pending_of ((e.0 - start) / 8) (edit_of (if c then rule_edit e.1 (pending_slot pending ((e.0 - start) / 8) (slot_or_zeros slots ((e.0 - start) / 8))) (nat_lt ((e.0 - start) / 8 + 1) (length slots)) else Err InvalidOffset)) else pending) es) else [])
          ≡ cons_option (if a && b then outcome_if key start e (if c then rule_edit e.1 (found_slot makes slots ((e.0 - start) / 8)) (nat_lt ((e.0 - start) / 8 + 1) (length slots)) else Err InvalidOffset) else None) (filter_map outcome es)
      by_cases false b c at inside aligned later = absurd (grind (arith, nat_tests, left.from, left.up.0))
      by_cases true false c at past aligned later = sym (all_past outcome (suc e.0) es left.up.1 (λ f above.
          let out : is_in_slots start (length slots) f.0 ≡ false = grind (arith, nat_tests) in
          rw out refl))
      by_cases true true false at inside aligned later =
          ap (cons_option (outcome_if key start e (Err InvalidOffset)))
          (later p pending (others_left section_relocations start e es p left p (omega arith) (omega (arith, left.near, left.up.0)) (λ k from same. absurd (grind (arith, nat_tests)))) is)
      by_cases true true true at inside aligned later =
          let n : ℕ = (e.0 - start) / 8 in
          let here : e.0 ≡ start + 8 * n = grind (arith, nat_tests) in
          let now = pending_on rule_edit section_relocations start slots p n pending (omega (arith, left.near, left.up.0)) (λ k low lt. none_before section_relocations start e es p left k low (omega arith)) is in
          ap (λ s. cons_option (outcome_if key start e (rule_edit e.1 s (nat_lt (n + 1) (length slots)))) (outcomes_scanned rule_edit key start slots (pending_of n (edit_of (rule_edit e.1 s (nat_lt (n + 1) (length slots))))) es)) (sym now.found)
          ∙ by_result later n _ here refl

  -- the scan of the relocations from the first slot on gives the outcomes of all
  scans_all : outcomes_scanned rule_edit key start slots None (entries_from start (entries section_relocations)) ≡ filter_map outcome (entries section_relocations)
  scans_all =
      scanned (entries_from start (entries section_relocations)) 0 None (all_left section_relocations start) (record { found = refl; later = λ k s past. refl })
      ∙ kept_from outcome start (entries section_relocations) (λ e out. rw out refl)

-- of a function: by its relocations from its first slot on
pub outcomes_are_scanned : (rule_edit : EditRule) (section_relocations : SectionRelocations) (key : FunctionKey) (f : Function)
    → outcomes_scanned rule_edit key f.section_offset f.instructions None (entries_from f.section_offset (entries section_relocations)) ≡ outcomes_of rule_edit section_relocations key f
outcomes_are_scanned rule_edit section_relocations key f = scans_all rule_edit section_relocations key f.section_offset f.instructions

-- ---- one step of the scan

module _ (rule_edit : EditRule) (key : FunctionKey) (start : ℕ) (slots : List bpf_insn) (pending : Pending) (e : ℕ × ElfRelocation) (rest : List (ℕ × ElfRelocation)) where
  -- a relocation among the slots
  pub scanned_on : nat_lt ((e.0 - start) / 8) (length slots) ≡ true → (before after all : List SlotOutcome) (r : Result Edit SlotFault) → r ≡ found_result rule_edit slots pending (e.0 - start) e.1
      → (next : Pending) → next ≡ pending_past pending (e.0 - start) r → after ≡ before ++ option_to_list (outcome_if key start e r)
      → before ++ outcomes_scanned rule_edit key start slots pending (e ∷ rest) ≡ all → after ++ outcomes_scanned rule_edit key start slots next rest ≡ all
  scanned_on inside before after all r is next passes added whole =
      ap (λ list. list ++ outcomes_scanned rule_edit key start slots next rest) added
      ∙ append_assoc before (option_to_list (outcome_if key start e r)) (outcomes_scanned rule_edit key start slots next rest)
      ∙ ap (λ list. before ++ list) (one (outcome_if key start e r) (outcomes_scanned rule_edit key start slots next rest) ∙ sym step)
      ∙ whole
    where
      one : (o : Option SlotOutcome) (list : List SlotOutcome) → option_to_list o ++ list ≡ cons_option o list
      one None list = refl
      one (Some x) list = refl

      step : outcomes_scanned rule_edit key start slots pending (e ∷ rest) ≡ cons_option (outcome_if key start e r) (outcomes_scanned rule_edit key start slots next rest)
      step = rw (inside, passes, is) refl

  -- one past them
  pub scanned_past : nat_lt ((e.0 - start) / 8) (length slots) ≡ false → outcomes_scanned rule_edit key start slots pending (e ∷ rest) ≡ []
  scanned_past past = rw past refl

-- ---- the first refusal

module _ (symbols : FinMap nat_cmp Symbol) (relocations : Relocations) (functions : FinMap key_cmp Function) (rule_edit : EditRule) where
  abbrev error_here : SlotOutcome → Option EbpfRelocationError
  error_here = outcome_error symbols relocations functions

  module _ (key : FunctionKey) (f : Function) (there : get functions key ≡ Some f) where
    abbrev rels : SectionRelocations
    rels = relocations_of_section relocations f

    abbrev named : SlotRefusal → EbpfRelocationError
    named r = record { function = f.name; error = error_of symbols rels r }

    of_result : (e : ℕ × ElfRelocation) (r : Result Edit SlotFault) (rest : List SlotOutcome) → first_some error_here (cons_option (outcome_if key f.section_offset e r) rest) ≡ or_else (option_map named (refused e r)) (first_some error_here rest)
    of_result e (Ok Stay) rest = refl
    of_result e (Ok (Slot made)) rest = rw there refl
    of_result e (Ok (Pair made next)) rest = rw there refl
    of_result e (Err fault) rest = rw there refl

    of_entry : (e : ℕ × ElfRelocation) (rest : List SlotOutcome)
        → first_some error_here (cons_option (outcome_at rule_edit rels key f.section_offset f.instructions e) rest)
        ≡ or_else (option_map named (refusal_at rule_edit rels f.section_offset f.instructions e)) (first_some error_here rest)
    of_entry e rest = by (is_in_slots f.section_offset (length f.instructions) e.0) ((e.0 - f.section_offset) % 8 == 0)
      where
        result : Result Edit SlotFault
        result = rule_edit e.1 (found_slot (edit_at rule_edit rels f.section_offset (length f.instructions)) f.instructions ((e.0 - f.section_offset) / 8)) (nat_lt ((e.0 - f.section_offset) / 8 + 1) (length f.instructions))

        by : (b c : Bool) → first_some error_here (cons_option (if b then outcome_if key f.section_offset e (if c then result else Err InvalidOffset) else None) rest)
            ≡ or_else (option_map named (if b then (if c then refused e result else refused e (Err InvalidOffset)) else None)) (first_some error_here rest)
        by false c = refl
        by true true = of_result e result rest
        by true false = of_result e (Err InvalidOffset) rest

    or_else-map : (a b : Option SlotRefusal) → option_map named (or_else a b) ≡ or_else (option_map named a) (option_map named b)
    or_else-map None b = refl
    or_else-map (Some r) b = refl

    of_entries : (es : List (ℕ × ElfRelocation)) → first_some error_here (filter_map (outcome_at rule_edit rels key f.section_offset f.instructions) es) ≡ option_map named (first_some (refusal_at rule_edit rels f.section_offset f.instructions) es)
    of_entries [] = refl
    of_entries (e ∷ es) =
        of_entry e (filter_map (outcome_at rule_edit rels key f.section_offset f.instructions) es)
        ∙ ap (or_else (option_map named (refusal_at rule_edit rels f.section_offset f.instructions e))) (of_entries es)
        ∙ sym (or_else-map (refusal_at rule_edit rels f.section_offset f.instructions e) (first_some (refusal_at rule_edit rels f.section_offset f.instructions) es))

    of_function : first_some error_here (outcomes_in rule_edit relocations (key, f)) ≡ function_fault rule_edit symbols relocations f
    unfolding first_refusal
    of_function = of_entries (entries rels)

  -- ---- of all functions

  -- the entries are those of the functions
  abbrev AreThere : List (FunctionKey × Function) → Type 0
  AreThere es = AllByRecursion (λ e. get functions e.0 ≡ Some e.1) es

  of_functions : (es : List (FunctionKey × Function)) → AreThere es → first_some error_here (flat_map (outcomes_in rule_edit relocations) es) ≡ first_some (λ e. function_fault rule_edit symbols relocations e.1) es
  of_functions [] there = refl
  of_functions (e ∷ es) there =
      first_some-append error_here (outcomes_in rule_edit relocations e) (flat_map (outcomes_in rule_edit relocations) es)
      ∙ ap (λ o. or_else o (first_some error_here (flat_map (outcomes_in rule_edit relocations) es))) (of_function e.0 e.1 there.0)
      ∙ ap (or_else (function_fault rule_edit symbols relocations e.1)) (of_functions es there.1)

-- each entry of a map is found by its key

own_equal : (r : Ordering) → r ≡ ordering_reverse r → is_eq r ≡ true
own_equal Less e = cc
own_equal Equal e = refl
own_equal Greater e = cc

-- an entry is found among those in order of which it is one
found_in : (es : List (FunctionKey × Function)) → IsStrictlySortedBy key_cmp (keys_of es) → AllByRecursion (λ e. find key_cmp e.0 es ≡ Some e.1) es
unfolding IsStrictlySortedBy
found_in [] up = tt
found_in (e ∷ es) up = (ap (λ b. cond b (Some e.1) (find key_cmp e.0 es)) (own_equal (key_cmp e.0 e.0) (key_total.antisymm e.0 e.0)), others es up.0 (found_in es up.1))
  where
    others : (ds : List (FunctionKey × Function)) → AllByRecursion (λ k. key_cmp e.0 k ≡ Less) (keys_of ds) → AllByRecursion (λ d. find key_cmp d.0 es ≡ Some d.1) ds → AllByRecursion (λ d. find key_cmp d.0 (e ∷ es) ≡ Some d.1) ds
    others [] above found = tt
    others (d ∷ ds) above found =
        (ap (λ r. cond (is_eq r) (Some e.1) (find key_cmp d.0 es)) (key_total.antisymm d.0 e.0 ∙ ap ordering_reverse above.0) ∙ found.0, others ds above.1 found.1)

are_there : (m : FinMap key_cmp Function) → AllByRecursion (λ e. get m e.0 ≡ Some e.1) (entries m)
are_there m = by_key (entries m) (found_in (entries m) (entries_rise m))
  where
    by_key : (es : List (FunctionKey × Function)) → AllByRecursion (λ e. find key_cmp e.0 (entries m) ≡ Some e.1) es → AllByRecursion (λ e. get m e.0 ≡ Some e.1) es
    by_key [] found = tt
    by_key (e ∷ es) found = (get-entries m e.0 ∙ found.0, by_key es found.1)

pub first_refused : FirstRefusedOutcome
unfolding first_fault
first_refused rule_edit symbols relocations functions = sym (of_functions symbols relocations functions rule_edit (entries functions) (are_there functions))

-- ---- the slots that outcomes leave

pub edits_as_said : EditsAsSaid
edits_as_said rule_edit section_relocations key f k inside = by (get section_relocations (f.section_offset + 8 * k))
  where
    slot : bpf_insn
    slot = found_slot (edit_at rule_edit section_relocations f.section_offset (length f.instructions)) f.instructions k

    of_result : (start : ℕ) (e : ℕ × ElfRelocation) (r : Result Edit SlotFault) → edit_of r ≡ edit_said (outcome_if key start e r)
    of_result start e (Ok Stay) = refl
    of_result start e (Ok (Slot made)) = refl
    of_result start e (Ok (Pair made next)) = refl
    of_result start e (Err fault) = refl

    by : (o : Option ElfRelocation) → edit_by rule_edit o slot (nat_lt (k + 1) (length f.instructions)) ≡ edit_said (outcome_by rule_edit section_relocations key f k o)
    by None = refl
    by (Some r) =
        let place : (f.section_offset + 8 * k - f.section_offset) / 8 ≡ k = omega arith in
        let aligned : ((f.section_offset + 8 * k - f.section_offset) % 8 == 0) ≡ true = grind (arith, nat_tests) in
        let among : is_in_slots f.section_offset (length f.instructions) (f.section_offset + 8 * k) ≡ true = grind (arith, nat_tests) in
        rw (among, aligned, place) (of_result f.section_offset (f.section_offset + 8 * k, r) (rule_edit r slot (nat_lt (k + 1) (length f.instructions))))
