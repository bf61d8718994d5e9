-- Functions in the order of their keys, by numbers: what is found, called, linked and told.
use Rattle.std.proofs.Common.{◌≡◌, ◌<◌, ◌≤◌, ◌+◌, ℕ, zero, suc, false, List, [], ◌∷◌, length, get_or, Some, None, refl, sym, ap, ◌∙◌, ⊎_elim, arith, Bool, true, cond, map, subst, Option}
use Rattle.std.specs.declared.cmp.Ordering.{Ordering}
use Rattle.std.specs.declared.cmp.Ordering.TheVariants.{Less, Equal, Greater}
use Rattle.std.specs.Prelude.{Err, is_some, slice_get, ◌||◌, ◌==◌, option_map, if◌then◌else◌, Vec, All}
use Rattle.std.specs.Cmp.{IsTotalOrder, tied_itself, eq_by_cmp_equiv}
use Rattle.std.specs.List.{position_from, HoldsAt, list_any}
use Rattle.std.specs.List.Sorted.{IsStrictlySortedBy, IsBinarySearchResult, IsNonDecreasingBy}
use Rattle.std.specs.Ordering.{ordering_index, ordering_reverse, eq_by_cmp, is_eq}
use Rattle.std.proofs.lemmas.Map.Keys.{Less-from_sorted}
use Rattle.std.proofs.lemmas.Bool.{cases_lt, cases_order}
use Rattle.std.specs.FinMap.{FinMap, get, entries, find, contains_key, get-entries, contains_key-keys}
use Rattle.std.specs.Map.{keys_of}
use Rattle.std.proofs.lemmas.Iterator.Adapters.{position_from-zero}
use Rattle.std.proofs.lemmas.List.{length-map}
use Rattle.std.proofs.lemmas.List.Quantifiers.{position-Some}
use Rattle.std.proofs.lemmas.Bool.Decides.{nat_tests}
use Rattle.std.specs.declared.alloc.Global.{Global}
use Rattle.std.proofs.lemmas.List.Elements.{All-nil, All-cons}
use Rattle.std.proofs.lemmas.Option.{slice_get-map, slice_get_cases}
use Rattle.ebpf_base.proofs.Maps.{key_exact, is_equal, entries_rise}
use Rattle.ebpf_base.specs.Maps.{key_cmp, key_total}
use Rattle.ebpf_linker.proofs.Carry.{least_to, program_to, layout_numbers, map_to}
use Rattle.ebpf_linker.proofs.Renamed.{renamed, Numbers, AllNumbers}
use Rattle.ebpf_linker.specs.Faults.{LeastFault, checked_references}
use Rattle.ebpf_linker.specs.Functions.{SlotReference, Nothing, Names, body}
use Rattle.ebpf_linker.specs.LinkMap.{CopyOf, copies_from, numbered_copy, IsLinkMap, IsNumberedLinkMap}
use Rattle.ebpf_linker.specs.Numbered.{of_target, referred, Rises, calls_or_empty, calls_at, body_content, option_content, functions_by_number, IsWithin, Sound}
use Rattle.ebpf_linker.specs.PrivateContracts.{key_copy}
use Rattle.ebpf_linker.specs.Result.{IsProgram}
use Rattle.ebpf_linker.specs.declared.body.Body.{Body}
use Rattle.ebpf_linker.specs.declared.body.LinkedProgram.{LinkedProgram}
use Rattle.ebpf_linker.specs.declared.link_map.NumberedLinkMap.{NumberedLinkMap}
use Rattle.ebpf_linker.specs.declared.reference.Reference.{Reference}
use Rattle.ebpf_linker.specs.declared.reference.Fault.{Fault}
use Rattle.ebpf_linker.specs.declared.reference.Target.{Target}
use Rattle.ebpf_linker.specs.declared.reference.Target.TheVariants.{Function as ToFunction, Nowhere}
use Rattle.ebpf_model.specs.declared.error.RelocationError.TheVariants.{FunctionInfoMismatch, ProgramTooLong, InvalidLineInfo}
use Rattle.ebpf_model.specs.declared.function.Function.{Function}
use Rattle.ebpf_parts.specs.declared.insn.bpf_insn.{bpf_insn}
use Rattle.ebpf_reloc.specs.Linking.{code_copy, IsLinkMapAt}
use Rattle.ebpf_reloc.specs.Numbers.{function_keys, function_list, key_in, function_name, with_function_names}
use Rattle.ebpf_reloc.specs.PrivateContracts.{number_of_key, calls_by, with_call, numbered_target_by, numbered_target, numbered_target_at, numbered_callback, calls_of, calls_from, named_copy}
use Rattle.ebpf_reloc.specs.References.{content_of, function_name_or_empty, name_at, looked_up, slot_reference, reference_of, functions_of}
use Rattle.ebpf_reloc.specs.SlotTargets.{LinkableValue, slot_target_of, callback_target}
use Rattle.ebpf_reloc.specs.declared.link_map.LinkMap.{LinkMap}
use Rattle.ebpf_reloc.specs.declared.slot_target.SlotTarget.{SlotTarget}
use Rattle.ebpf_reloc.specs.declared.slot_target.SlotTarget.TheVariants.{Absent, Unsupported, At}

-- ---- what a binary search among rising keys finds

module _ {K : Type 0} {R : K → K → Ordering} (o : IsTotalOrder R) where
  pub flipped : (a b : K) (r : Ordering) → R a b ≡ r → R b a ≡ ordering_reverse r
  flipped a b r h = o.antisymm b a ∙ ap ordering_reverse h

  top : (r : Ordering) → ordering_index r ≤ 2
  top Less = omega arith
  top Equal = omega arith
  top Greater = omega arith

  -- a smaller key compares no higher
  rises : (a b x : K) → R a b ≡ Less → ordering_index (R a x) ≤ ordering_index (R b x)
  rises a b x less = step (R b x) refl
    where
      step : (r : Ordering) → R b x ≡ r → ordering_index (R a x) ≤ ordering_index (R b x)
      step Less at = rw (o.trans a b x less at, at) (omega arith)
      step Equal at =
          let above : R x a ≡ Greater = sym (o.congr b x a at) ∙ flipped a b Less less in
          rw (flipped x a Greater above, at) (omega arith)
      step Greater at = rw at (top (R a x))

  comparisons_rise : (ks : List K) (x : K) → IsStrictlySortedBy R ks → IsNonDecreasingBy (λ y. ordering_index (R y x)) ks
  comparisons_rise ks x up i j d le lt = ⊎_elim
      (λ less. rises _ _ x (Less-from_sorted R ks i j d up less lt))
      (λ more. let same : i ≡ j = omega arith in rw same (omega arith))
      (cases_lt i j)

  none_among : (ks : List K) (x : K) (n : ℕ) → ((k : ℕ) (d : K) → k < length ks → is_eq (R x (get_or ks k d)) ≡ false) → position_from (λ k. eq_by_cmp R x k) n ks ≡ None
  none_among [] x n h = refl
  none_among (k ∷ ks) x n h =
      let here : is_eq (R x k) ≡ false = h 0 k (omega arith) in
      rw here (none_among ks x (n + 1) (λ i d lt. h (suc i) d (omega arith)))

  apart : (a x : K) (r : Ordering) → R a x ≡ r → is_eq r ≡ false → is_eq (R x a) ≡ false
  apart a x Less at h = rw (flipped a x Less at) refl
  apart a x Equal at h = cc
  apart a x Greater at h = rw (flipped a x Greater at) refl

  absent : (ks : List K) (x : K) (i : ℕ) → IsStrictlySortedBy R ks → IsBinarySearchResult (λ y. R y x) ks (Err i) → position_from (λ k. eq_by_cmp R x k) 0 ks ≡ None
  absent ks x i up h =
      let parted = h (comparisons_rise ks x up) in
      none_among ks x 0 (λ k d lt. ⊎_elim
      (λ below. apart (get_or ks k d) x Less (parted.0 k d (omega arith) below) refl)
      (λ past. apart (get_or ks k d) x Greater (parted.1 k d past lt) refl)
      (cases_lt k i))

  present : (ks : List K) (x : K) (m n : ℕ) → IsStrictlySortedBy R ks → n < length ks → HoldsAt (λ y. R y x ≡ Equal) ks n → position_from (λ k. eq_by_cmp R x k) m ks ≡ Some (m + n)
  unfolding IsStrictlySortedBy
  present [] x m n up lt h = absurd (omega arith)
  present (k ∷ ks) x m zero up lt h =
      let here : R x k ≡ Equal = flipped k x Equal (h k) in
      let e : m ≡ m + 0 = omega arith in
      rw here (ap Some e)
  present (k ∷ ks) x m (suc n) up lt h =
      let other : R (get_or ks n k) k ≡ R x k = o.congr (get_or ks n k) x k (h k) in
      let less : R k (get_or ks n k) ≡ Less = Less-from_sorted R (k ∷ ks) 0 (suc n) k up (omega arith) lt in
      let above : R x k ≡ Greater = sym other ∙ flipped k (get_or ks n k) Less less in
      let e : m + 1 + n ≡ m + suc n = omega arith in
      rw above (present ks x (m + 1) n up.1 (omega arith) h ∙ ap Some e)

pub found_key : (keys : List (ℕ × ℕ)) (key : ℕ × ℕ) (n : ℕ) → IsStrictlySortedBy key_cmp keys → n < length keys → HoldsAt (λ y. key_cmp y key ≡ Equal) keys n → Some n ≡ number_of_key keys key
found_key keys key n up lt h = sym (present key_total keys key 0 n up lt h ∙ ap Some (omega arith))

pub key_here : (keys : List (ℕ × ℕ)) (key : ℕ × ℕ) (n : ℕ) → IsStrictlySortedBy key_cmp keys → n < length keys → ((d : ℕ × ℕ) → get_or keys n d ≡ key) → Some n ≡ number_of_key keys key
key_here keys key n up lt same = found_key keys key n up lt (λ d. ap (λ k. key_cmp k key) (same d) ∙ tied_itself key_total key)

pub no_key : (keys : List (ℕ × ℕ)) (key : ℕ × ℕ) (i : ℕ) → IsStrictlySortedBy key_cmp keys → IsBinarySearchResult (λ y. key_cmp y key) keys (Err i) → None ≡ number_of_key keys key
no_key keys key i up h = sym (absent key_total keys key i up h)

-- ---- functions in the order of their keys, and the numbers of the keys

module _ {K X : Type 0} {R : K → K → Ordering} (o : IsTotalOrder R) where
  -- the value at the key of a place is the one of that place
  at_place : (es : List (K × X)) (i : ℕ) (d : K) → IsStrictlySortedBy R (keys_of es) → i < length es → find R (get_or (keys_of es) i d) es ≡ slice_get (map (λ e. e.1) es) i
  unfolding IsStrictlySortedBy
  at_place [] i d up lt = absurd (omega arith)
  at_place (e ∷ es) zero d up lt = rw ((eq_by_cmp_equiv o).refl e.0) refl
  at_place (e ∷ es) (suc i) d up lt =
      let inside : suc i < length (keys_of (e ∷ es)) = omega (arith, length-map (e ∷ es) (λ p. p.0)) in
      let less : R e.0 (get_or (keys_of es) i d) ≡ Less = Less-from_sorted R (keys_of (e ∷ es)) 0 (suc i) d up (omega arith) inside in
      rw (flipped o e.0 (get_or (keys_of es) i d) Less less) (at_place es i d up.1 (omega arith))

module _ {K : Type 0} (test : K → Bool) where
  is_some-position : (ks : List K) (n : ℕ) → is_some (position_from test n ks) ≡ list_any test ks
  is_some-position [] n = refl
  is_some-position (k ∷ ks) n = step (test k) (is_some-position ks (n + 1))
    where
      step : (b : Bool) → is_some (position_from test (n + 1) ks) ≡ list_any test ks → is_some (cond b (Some n) (position_from test (n + 1) ks)) ≡ (b || list_any test ks)
      step true rest = refl
      step false rest = rest

module _ (functions : FinMap key_cmp Function) where
  rising : IsStrictlySortedBy key_cmp (function_keys functions)
  rising = entries_rise functions

  pub count_keys : length (function_keys functions) ≡ length (entries functions)
  count_keys = length-map (entries functions) (λ p. p.0)

  -- the function at the key of a number
  pub function_at : (m : ℕ) → m < length (function_keys functions) → get functions (key_in (function_keys functions) m) ≡ slice_get (function_list functions) m
  function_at m lt = get-entries functions (key_in (function_keys functions) m) ∙ at_place key_total (entries functions) m (0, 0) rising (omega (arith, count_keys))

  -- a key stands where it has a number
  pub has_number : (key : ℕ × ℕ) → contains_key functions key ≡ is_some (number_of_key (function_keys functions) key)
  has_number key = contains_key-keys functions key ∙ sym (is_some-position (eq_by_cmp key_cmp key) (function_keys functions) 0)

-- the number of a key names that key
pub number_names : (keys : List (ℕ × ℕ)) (key : ℕ × ℕ) (n : ℕ) → number_of_key keys key ≡ Some n → (n < length keys) × (key_in keys n ≡ key)
number_names keys key n found =
    let at = position-Some (eq_by_cmp key_cmp key) keys n (0, 0) (position_from-zero (eq_by_cmp key_cmp key) keys ∙ found) in
    (at.0, sym (key_exact key (key_in keys n) (is_equal _ at.1)))

-- no key has two numbers
pub one_number : (keys : List (ℕ × ℕ)) (m n : ℕ) → IsStrictlySortedBy key_cmp keys → m < length keys → n < length keys → key_in keys m ≡ key_in keys n → m ≡ n
one_number keys m n up in_m in_n same = ⊎_elim
    (λ e. e)
    (λ l. ⊎_elim (λ less. clash m n less in_n same) (λ more. clash n m more in_m (sym same)) l)
    (cases_order m n)
  where
    clash : {P : Type 0} (i j : ℕ) → i < j → j < length keys → key_in keys i ≡ key_in keys j → P
    clash i j less in_j e =
        let apart : key_cmp (key_in keys i) (key_in keys j) ≡ Less = Less-from_sorted key_cmp keys i j (0, 0) up less in_j in
        let tied : is_eq (key_cmp (key_in keys i) (key_in keys j)) ≡ true = subst (λ k. is_eq (key_cmp (key_in keys i) k) ≡ true) e ((eq_by_cmp_equiv key_total).refl (key_in keys i)) in
        let none : is_eq (key_cmp (key_in keys i) (key_in keys j)) ≡ false = ap is_eq apart in
        cc

-- ---- the calls that are found are the references of the functions, with numbers for keys

-- what an optional target refers to
abbrev pub of_option : Option Target → SlotReference ℕ Fault
of_option None = Nothing
of_option (Some target) = of_target target

module _ (leads : ℕ → bpf_insn → Option Target) (last : Option Target) where
  -- what slot i refers to, or what is behind the last of so many slots
  abbrev pub led : ℕ → ℕ → Option bpf_insn → SlotReference ℕ Fault
  led count i None = if i == count then of_option last else Nothing
  led count i (Some slot) = of_option (leads i slot)

  -- no call stands on a slot before the first
  none_if : (t : Option Target) (n x : ℕ) → x < n → (cs : List Reference) → referred cs x ≡ Nothing → referred (with_call n t cs) x ≡ Nothing
  none_if None n x below cs rest = rest
  none_if (Some target) n x below cs rest =
      let other : (n == x) ≡ false = grind (arith, nat_tests) in
      rw other rest

  none_before : (slots : List bpf_insn) (n x : ℕ) → x < n → referred (calls_by leads last n slots) x ≡ Nothing
  none_before [] n x below = none_if last n x below [] refl
  none_before (slot ∷ slots) n x below = none_if (leads n slot) n x below (calls_by leads last (n + 1) slots) (none_before slots (n + 1) x (omega arith))

  nothing : (b : Bool) → ◌≡◌ {A = SlotReference ℕ Fault} Nothing (if b then Nothing else Nothing)
  nothing true = refl
  nothing false = refl

  -- behind the last slot
  referred_last : (t : Option Target) (n i : ℕ) → referred (with_call n t []) (n + i) ≡ (if n + i == n + 0 then of_option t else Nothing)
  referred_last None n i = nothing (n + i == n + 0)
  referred_last (Some target) n zero =
      let same : (n == n + 0) ≡ true = grind (arith, nat_tests) in
      let here : (n + 0 == n + 0) ≡ true = grind (arith, nat_tests) in
      rw (same, here) refl
  referred_last (Some target) n (suc i) =
      let other : (n == n + suc i) ≡ false = grind (arith, nat_tests) in
      let past : (n + suc i == n + 0) ≡ false = grind (arith, nat_tests) in
      rw (other, past) refl

  referred_from : (slots : List bpf_insn) (n i : ℕ) → referred (calls_by leads last n slots) (n + i) ≡ led (n + length slots) (n + i) (slice_get slots i)
  referred_from [] n i = referred_last last n i
  referred_from (slot ∷ slots) n zero = step (leads n slot) refl
    where
      here : n ≡ n + 0
      here = omega arith

      step : (t : Option Target) → leads n slot ≡ t → referred (with_call n t (calls_by leads last (n + 1) slots)) (n + 0) ≡ of_option (leads (n + 0) slot)
      step None at = none_before slots (n + 1) (n + 0) (omega arith) ∙ ap of_option (sym at ∙ ap (λ k. leads k slot) here)
      step (Some target) at =
          let same : (n == n + 0) ≡ true = grind (arith, nat_tests) in
          rw same (ap of_option (sym at ∙ ap (λ k. leads k slot) here))
  referred_from (slot ∷ slots) n (suc i) = step (leads n slot) (referred_from slots (n + 1) i)
    where
      on : n + 1 + i ≡ n + suc i
      on = omega arith

      full : n + 1 + length slots ≡ n + suc (length slots)
      full = omega arith

      moved : referred (calls_by leads last (n + 1) slots) (n + 1 + i) ≡ led (n + 1 + length slots) (n + 1 + i) (slice_get slots i)
          → referred (calls_by leads last (n + 1) slots) (n + suc i) ≡ led (n + suc (length slots)) (n + suc i) (slice_get slots i)
      moved rest =
          subst (λ k. referred (calls_by leads last (n + 1) slots) k ≡ led (n + suc (length slots)) k (slice_get slots i)) on
          (subst (λ c. referred (calls_by leads last (n + 1) slots) (n + 1 + i) ≡ led c (n + 1 + i) (slice_get slots i)) full rest)

      step : (t : Option Target) → referred (calls_by leads last (n + 1) slots) (n + 1 + i) ≡ led (n + 1 + length slots) (n + 1 + i) (slice_get slots i) → referred (with_call n t (calls_by leads last (n + 1) slots)) (n + suc i) ≡ led (n + suc (length slots)) (n + suc i) (slice_get slots i)
      step None rest = moved rest
      step (Some target) rest =
          let other : (n == n + suc i) ≡ false = grind (arith, nat_tests) in
          rw other (moved rest)

  -- what slot i refers to, and the function behind its last slot
  pub referred_at : (slots : List bpf_insn) (i : ℕ) → referred (calls_by leads last 0 slots) i ≡ led (length slots) i (slice_get slots i)
  referred_at slots i =
      let e : 0 + i ≡ i = omega arith in
      let full : 0 + length slots ≡ length slots = omega arith in
      subst (λ c. referred (calls_by leads last 0 slots) i ≡ led c i (slice_get slots i)) full
      (subst (λ k. referred (calls_by leads last 0 slots) k ≡ led (0 + length slots) k (slice_get slots i)) e (referred_from slots 0 i))

  later : (m n : ℕ) (cs : List Reference) → m ≤ n → Rises n cs → Rises m cs
  later m n [] le h = tt
  later m n (c ∷ cs) le h = (omega (arith, h.0), h.1)

  rise_if : (t : Option Target) (n : ℕ) (cs : List Reference) → Rises (n + 1) cs → Rises n (with_call n t cs)
  rise_if None n cs rest = later n (n + 1) cs (omega arith) rest
  rise_if (Some target) n cs rest = (omega arith, rest)

  -- the calls rise
  pub calls_rise : (slots : List bpf_insn) (n : ℕ) → Rises n (calls_by leads last n slots)
  calls_rise [] n = rise_if last n [] tt
  calls_rise (slot ∷ slots) n = rise_if (leads n slot) n (calls_by leads last (n + 1) slots) (calls_rise slots (n + 1))

-- ---- the functions by number are the functions by key

abbrev or_none : Option (List Reference) → List Reference
or_none None = []
or_none (Some cs) = cs

module _ (parts : LinkableValue) where
  abbrev keys : List (ℕ × ℕ)
  keys = function_keys parts.functions

  abbrev fs : List Function
  fs = function_list parts.functions

  -- what is looked for by number and by key
  same_target : (m : ℕ) (name : List ℕ) → function_name fs m ≡ name → (slot_target : SlotTarget) → looked_up parts.functions name slot_target ≡ renamed (key_in keys) (with_function_names fs) (of_option (numbered_target keys m slot_target))
  same_target m name named Absent = refl
  same_target m name named (Unsupported index) = refl
  same_target m name named (At section address) = step (number_of_key keys (section, address)) refl (has_number parts.functions (section, address))
    where
      step : (n : Option ℕ) → number_of_key keys (section, address) ≡ n → contains_key parts.functions (section, address) ≡ is_some (number_of_key keys (section, address))
          → looked_up parts.functions name (At section address) ≡ renamed (key_in keys) (with_function_names fs) (of_target (numbered_target_by n m address))
      step None at has = rw (has, at, named) refl
      step (Some n) at has = rw (has, at, (number_names keys (section, address) n at).1) refl

  -- behind the last slot, or further on
  same_behind : (m : ℕ) (name : List ℕ) → function_name fs m ≡ name → (slot_target : SlotTarget) (b : Bool)
      → (if b then looked_up parts.functions name slot_target else Nothing) ≡ renamed (key_in keys) (with_function_names fs) (if b then of_option (numbered_target keys m slot_target) else Nothing)
  same_behind m name named slot_target true = same_target m name named slot_target
  same_behind m name named slot_target false = refl

  same_slot : (m i : ℕ) (f : Function) → function_name fs m ≡ f.name → (s : Option bpf_insn)
      → slot_reference parts f i s ≡ renamed (key_in keys) (with_function_names fs) (led (numbered_target_at parts keys m f) (numbered_callback parts keys m f) (length f.instructions) i s)
  same_slot m i f named None = same_behind m f.name named (callback_target parts f) (i == length f.instructions)
  same_slot m i f named (Some slot) = same_target m f.name named (slot_target_of parts f i slot)

  -- the calls of function m
  calls_here : (gs : List Function) (n i : ℕ) → slice_get (calls_from parts keys n gs) i ≡ option_map (λ g. calls_of parts keys (n + i) g) (slice_get gs i)
  calls_here [] n i = refl
  calls_here (g ∷ gs) n zero = let e : n ≡ n + 0 = omega arith in ap (λ k. Some (calls_of parts keys k g)) e
  calls_here (g ∷ gs) n (suc i) = let e : n + 1 + i ≡ n + suc i = omega arith in calls_here gs (n + 1) i ∙ ap (λ k. option_map (λ h. calls_of parts keys k h) (slice_get gs i)) e

  abbrev IsInside : Option Target → Type 0
  IsInside None = Unit {0}
  IsInside (Some target) = IsWithin (length keys) target

  inside : (m : ℕ) (slot_target : SlotTarget) → IsInside (numbered_target keys m slot_target)
  inside m Absent = tt
  inside m (Unsupported index) = tt
  inside m (At section address) = step (number_of_key keys (section, address)) refl
    where
      step : (n : Option ℕ) → number_of_key keys (section, address) ≡ n → IsWithin (length keys) (numbered_target_by n m address)
      step None at = tt
      step (Some n) at = (number_names keys (section, address) n at).0

  inside_if : (t : Option Target) (n : ℕ) (cs : List Reference) → IsInside t → All (λ c. IsWithin (length keys) c.target) cs → All (λ c. IsWithin (length keys) c.target) (with_call n t cs)
  inside_if None n cs h rest = rest
  inside_if (Some target) n cs h rest = All-cons (λ c. IsWithin (length keys) c.target) (record { slot = n; target = target }) cs h rest

  calls_inside : (leads : ℕ → bpf_insn → Option Target) (last : Option Target) → ((i : ℕ) (s : bpf_insn) → IsInside (leads i s)) → IsInside last → (slots : List bpf_insn) (n : ℕ)
      → All (λ c. IsWithin (length keys) c.target) (calls_by leads last n slots)
  calls_inside leads last all end [] n = inside_if last n [] end (All-nil (λ c. IsWithin (length keys) c.target))
  calls_inside leads last all end (s ∷ slots) n = inside_if (leads n s) n (calls_by leads last (n + 1) slots) (all n s) (calls_inside leads last all end slots (n + 1))

  -- a reference leads to one of the functions
  names_inside : (cs : List Reference) (n i k : ℕ) → All (λ c. IsWithin n c.target) cs → referred cs i ≡ Names k → k < n
  names_inside [] n i k all h = cc
  names_inside (c ∷ cs) n i k all h = step (c.slot == i) c.target (all 0 c (omega arith)) (names_inside cs n i k (λ j d lt. all (suc j) d (omega arith))) h
    where
      step : (b : Bool) (t : Target) → IsWithin n t → (referred cs i ≡ Names k → k < n) → (if b then of_target t else referred cs i) ≡ Names k → k < n
      step false t is rest g = rest g
      step true (ToFunction m) is rest g = let same : m ≡ k = cc in subst (λ x. x < n) same is
      step true (Nowhere e) is rest g = cc

  -- a function stands at the key of a number
  stands_at : (number : ℕ) → number < length keys → (f : Function) × (get parts.functions (key_in keys number) ≡ Some f)
  stands_at number lt = ⊎_elim
      (λ s. (s.0, function_at parts.functions number lt ∙ s.2))
      (λ past. absurd (omega (arith, past.0, lt, length-map (entries parts.functions) (λ e. e.1), count_keys parts.functions)))
      (slice_get_cases fs number).1

  module _ (B : List Body) (C : List (Vec Reference Global)) (bodies : map body_content B ≡ map content_of fs) (calls : map (λ v. v.items) C ≡ calls_from parts keys 0 fs) where
    content_here : (m : ℕ) → option_content (slice_get B m) ≡ option_map content_of (slice_get fs m)
    content_here m = same (slice_get B m) ∙ sym (slice_get-map body_content B m) ∙ ap (λ l. slice_get l m) bodies ∙ slice_get-map content_of fs m
      where
        same : (x : Option Body) → option_content x ≡ option_map body_content x
        same None = refl
        same (Some x) = refl

    calls_of_all : (m : ℕ) → calls_at C m ≡ or_none (option_map (λ f. calls_of parts keys m f) (slice_get fs m))
    calls_of_all m = same (slice_get C m) ∙ ap or_none (sym (slice_get-map (λ (v : Vec Reference Global). v.items) C m) ∙ ap (λ l. slice_get l m) calls ∙ calls_here fs 0 m ∙ ap (λ k. option_map (λ f. calls_of parts keys k f) (slice_get fs m)) (omega arith))
      where
        same : (x : Option (Vec Reference Global)) → calls_or_empty x ≡ or_none (option_map (λ (v : Vec Reference Global). v.items) x)
        same None = refl
        same (Some x) = refl

    calls_rise_at : (k : ℕ) (f : Option Function) → Rises 0 (or_none (option_map (λ f. calls_of parts keys k f) f))
    calls_rise_at k None = tt
    calls_rise_at k (Some f) = calls_rise (numbered_target_at parts keys k f) (numbered_callback parts keys k f) f.instructions 0

    calls_inside_at : (k : ℕ) (f : Option Function) → All (λ c. IsWithin (length keys) c.target) (or_none (option_map (λ f. calls_of parts keys k f) f))
    calls_inside_at k None = All-nil (λ c. IsWithin (length keys) c.target)
    calls_inside_at k (Some f) = calls_inside (numbered_target_at parts keys k f) (numbered_callback parts keys k f) (λ i s. inside k (slot_target_of parts f i s)) (inside k (callback_target parts f)) f.instructions 0

    -- the calls rise, and lead to functions
    pub calls_sound : Sound (length keys) C
    calls_sound = record {
      rises = λ k. subst (λ cs. Rises 0 cs) (sym (calls_of_all k)) (calls_rise_at k (slice_get fs k));
      within = λ k. subst (λ cs. All (λ c. IsWithin (length keys) c.target) cs) (sym (calls_of_all k)) (calls_inside_at k (slice_get fs k));
    }

    function_here : (m : ℕ) → m < length keys → get parts.functions (key_in keys m) ≡ slice_get fs m
    function_here m lt = function_at parts.functions m lt

    pub name_here : (m : ℕ) → m < length keys → name_at parts.functions (key_in keys m) ≡ function_name fs m
    name_here m lt = ap function_name_or_empty (function_here m lt)

    reference_here : (m i : ℕ) (f : Option Function) → slice_get fs m ≡ f → reference_of parts f i ≡ renamed (key_in keys) (with_function_names fs) (referred (or_none (option_map (λ f. calls_of parts keys m f) f)) i)
    reference_here m i None at = refl
    reference_here m i (Some f) at = same_slot m i f (ap function_name_or_empty at) (slice_get f.instructions i) ∙ ap (renamed (key_in keys) (with_function_names fs)) (sym (referred_at (numbered_target_at parts keys m f) (numbered_callback parts keys m f) f.instructions i))

    -- the functions by number are the functions by key
    pub numbered : Numbers (functions_by_number B C) (functions_of parts) (λ m. m < length keys) (key_in keys) (with_function_names fs)
    numbered = record {
      content = λ m lt. ap (option_map content_of) (function_here m lt) ∙ sym (content_here m);
      reference = λ m i lt. ap (λ f. reference_of parts f i) (function_here m lt) ∙ reference_here m i (slice_get fs m) refl ∙ ap (λ cs. renamed (key_in keys) (with_function_names fs) (referred cs i)) (sym (calls_of_all m));
      closed = λ m k i lt h. names_inside (calls_at C m) (length keys) i k (calls_sound.within m) h;
      apart = λ m k in_m in_k same. one_number keys m k (entries_rise parts.functions) in_m in_k same;
      mismatch = λ m lt. ap FunctionInfoMismatch (name_here m lt);
      too_long = λ m lt. ap ProgramTooLong (name_here m lt);
      stray_line = λ m lt. ap InvalidLineInfo (name_here m lt);
    }

    length_calls : (gs : List Function) (n : ℕ) → length (calls_from parts keys n gs) ≡ length gs
    length_calls [] n = refl
    length_calls (g ∷ gs) n = ap suc (length_calls gs (n + 1))

    count_functions : length fs ≡ length keys
    count_functions = length-map (entries parts.functions) (λ e. e.1) ∙ sym (count_keys parts.functions)

    pub count_bodies : length B ≡ length keys
    count_bodies = sym (length-map B body_content) ∙ ap length bodies ∙ length-map fs content_of ∙ count_functions

    pub count_calls : length C ≡ length B
    count_calls = sym (length-map C (λ (v : Vec Reference Global). v.items)) ∙ ap length calls ∙ length_calls fs 0 ∙ count_functions ∙ sym count_bodies

    -- the same, as the linker's functions need them
    pub references_sound : Sound (length B) C
    references_sound = subst (λ (n : ℕ). Sound n C) (sym count_bodies) calls_sound

    -- what is wrong with a program by number, is wrong by key
    pub fault_by_key : (number : ℕ) (e : Fault) → number < length keys → LeastFault (functions_by_number B C) (checked_references (functions_by_number B C) number) number e
        → LeastFault (functions_of parts) (checked_references (functions_of parts) (key_in keys number)) (key_in keys number) (with_function_names fs e)
    fault_by_key number e lt h = least_to (functions_by_number B C) (functions_of parts) (λ m. m < length keys) (key_in keys) (with_function_names fs) numbered number e lt h

    -- what holds of a linked program by number, holds by key
    pub program_by_key : (number : ℕ) (ks : List ℕ) (l : LinkedProgram) → number < length keys → IsProgram (functions_by_number B C) number ks l
        → IsProgram (functions_of parts) (key_in keys number) (map (key_in keys) ks) l
    program_by_key number ks l lt h = program_to (functions_by_number B C) (functions_of parts) (λ m. m < length keys) (key_in keys) (with_function_names fs) numbered number ks l lt h

    -- ---- what a program is made of, from the numbers of functions to their keys

    abbrev IsNumber : ℕ → Type 0
    IsNumber m = m < length keys

    -- the copies of functions with numbers have their names
    names_same : (base : ℕ) (ms : List ℕ) → AllNumbers IsNumber ms → map (named_copy keys fs) (map numbered_copy (copies_from (functions_by_number B C) base ms)) ≡ map (code_copy parts.functions) (map (key_copy (key_in keys)) (copies_from (functions_by_number B C) base ms))
    names_same base [] all = refl
    names_same base (m ∷ ms) all =
        let name = name_here m all.0 in
        let rest = names_same (base + length (body (functions_by_number B C) m)) ms all.1 in
        λ i. record { key = key_in keys m; name = sym name i; base = base; slots = length (body (functions_by_number B C) m) } ∷ rest i

    -- what is found by number, is found by key
    pub is_mapped : (number : ℕ) (m : NumberedLinkMap) (n : LinkMap) → number < length keys → IsNumberedLinkMap (functions_by_number B C) number m → n.copies ≡ map (named_copy keys fs) m.copies → n.references ≡ m.references → IsLinkMapAt parts (key_in keys number) n
    is_mapped number m n lt (ks, cs, h, are) copies references =
        let all = layout_numbers (functions_by_number B C) (functions_of parts) IsNumber (key_in keys) (with_function_names fs) numbered number ks lt h.layout in
        let program = map_to (functions_by_number B C) (functions_of parts) IsNumber (key_in keys) (with_function_names fs) numbered number ks cs m.references lt h in
        let (f, stands) = stands_at number lt in
        record {
          function = f;
          stands = stands;
          order = map (key_in keys) ks;
          copies = map (key_copy (key_in keys)) cs;
          program = subst (λ rs. IsLinkMap (functions_of parts) (key_in keys number) (map (key_in keys) ks) (map (key_copy (key_in keys)) cs) rs) (sym references) program;
          named = copies
              ∙ ap (map (named_copy keys fs)) are
              ∙ ap (λ (u : List (CopyOf ℕ)). map (named_copy keys fs) (map numbered_copy u)) h.copies
              ∙ names_same 0 (number ∷ ks) (lt, all)
              ∙ ap (λ (u : List (CopyOf ℕ)). map (code_copy parts.functions) (map (key_copy (key_in keys)) u)) (sym h.copies);
        }
