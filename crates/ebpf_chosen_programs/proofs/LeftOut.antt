-- The functions that remaining programs reach have all that they had.
use Rattle.std.proofs.Common.{◌≡◌, ℕ, ◌+◌, ◌*◌, ◌<◌, Bool, true, false, cond, List, [], ◌∷◌, ◌++◌, map, length, Option, Some, None, refl, sym, ap, ◌∙◌, subst, arith}
use Rattle.std.specs.Prelude.{◌==◌, ◌||◌, ◌&&◌, not, nat_le, nat_lt, slice_get, option_map, unwrap_or, ◌^◌, ℤ}
use Rattle.std.specs.Cmp.{both_ways, eq_by_cmp_equiv, nat_cmp_total}
use Rattle.std.specs.FinMap.{FinMap, get, entries, find, get-entries, get-empty, empty, nat_cmp-IsAntisymmetric}
use Rattle.std.specs.List.{list_any, filter_map, flat_map, cons_option, IsDistinct}
use Rattle.std.specs.Map.{keys_of}
use Rattle.std.specs.Option.{option_or}
use Rattle.std.specs.Ordering.{nat_cmp, eq_by_cmp}
use Rattle.std.proofs.lemmas.Bool.Decides.{nat_tests}
use Rattle.std.proofs.lemmas.Map.Keys.{IsDistinct-from_sorted}
use Rattle.std.proofs.lemmas.Option.{slice_get_within}
use Rattle.ebpf_base.proofs.Mapped.{find-apart, later_number_stands}
use Rattle.ebpf_base.proofs.Maps.{entries_rise, is_equal, key_exact}
use Rattle.ebpf_base.proofs.TextMaps.{text_exact}
use Rattle.ebpf_base.specs.Maps.{key_cmp, last_at, text_cmp, text_total}
use Rattle.ebpf_elf.specs.declared.relocation.ElfRelocation.{ElfRelocation}
use Rattle.ebpf_model.specs.Symbols.{FunctionKey}
use Rattle.ebpf_model.specs.Walks.{found_at}
use Rattle.ebpf_model.specs.declared.function.Function.{Function}
use Rattle.ebpf_model.specs.declared.symbol.Symbol.{Symbol}
use Rattle.ebpf_object.specs.declared.object.Object.{Object}
use Rattle.ebpf_parts.specs.declared.insn.bpf_insn.{bpf_insn}
use Rattle.ebpf_reloc.specs.References.{functions_of, looked_up, reference_of, slot_reference}
use Rattle.ebpf_reloc.specs.Relocated.{Relocations, SectionRelocations}
use Rattle.ebpf_reloc.specs.SlotTargets.{own_target, relocated_target, relocation_of}
use Rattle.ebpf_chosen_programs.proofs.Kept.{get_kept}
use Rattle.ebpf_chosen_programs.specs.Laws.{OneLeavingOut, ReferencesOfReachedStay, ReferredExternsStay, RelocationsOfReachedStay}
use Rattle.ebpf_chosen_programs.specs.LeavingOut.{extern_name, extern_names, extern_names_in, extern_stays, is_among, kept_in_section, kept_relocations, lies_in, lies_in_some, stays, without_programs}
use Rattle.ebpf_chosen_programs.specs.Reached.{own_linkable}

-- ---- the table of a section

module _ {X Y : Type 0} (g : ℕ → X → Y) where
  last_mapped : (q : ℕ) (es : List (ℕ × X)) → IsDistinct (eq_by_cmp nat_cmp) (keys_of es) → (before : Option Y)
      → last_at nat_cmp q before (map (λ s. (s.0, g s.0 s.1)) es) ≡ option_or (option_map (g q) (find nat_cmp q es)) before
  unfolding IsDistinct
  last_mapped q [] apart before = refl
  last_mapped q (e ∷ es) apart before =
      last_mapped q es apart.1 (cond (eq_by_cmp nat_cmp q e.0) (Some (g e.0 e.1)) before) ∙ step (eq_by_cmp nat_cmp q e.0) refl
    where
      step : (b : Bool) → eq_by_cmp nat_cmp q e.0 ≡ b
          → option_or (option_map (g q) (find nat_cmp q es)) (cond b (Some (g e.0 e.1)) before) ≡ option_or (option_map (g q) (cond b (Some e.1) (find nat_cmp q es))) before
      step true at =
          let none : find nat_cmp q es ≡ None = find-apart nat_cmp_total nat_cmp-IsAntisymmetric q e.0 at es apart.0 in
          let same : q ≡ e.0 = nat_cmp-IsAntisymmetric q e.0 (is_equal _ at) in
          rw none (ap (λ (n : ℕ). Some (g n e.1)) (sym same))
      step false at = refl

or_none : {X : Type 0} (x : Option X) → option_or x None ≡ x
or_none None = refl
or_none (Some v) = refl

module _ (functions : FinMap key_cmp Function) (reached : FunctionKey → Bool) where
  kept_table : (relocations : Relocations) (section : ℕ) → get (kept_relocations functions reached relocations) section ≡ option_map (kept_in_section functions reached section) (get relocations section)
  kept_table relocations section =
      later_number_stands empty (map (λ s. (s.0, kept_in_section functions reached s.0 s.1)) (entries relocations)) section
      ∙ ap (λ x. last_at nat_cmp section x (map (λ s. (s.0, kept_in_section functions reached s.0 s.1)) (entries relocations))) (get-empty nat_cmp section)
      ∙ last_mapped (kept_in_section functions reached) section (entries relocations) (IsDistinct-from_sorted nat_cmp _ (entries_rise relocations)) None
      ∙ or_none _
      ∙ ap (option_map (kept_in_section functions reached section)) (sym (get-entries relocations section))

  -- a relocation that stays is found as before
  found_still : (section offset : ℕ) (table : Option SectionRelocations) → stays functions reached section offset ≡ true → found_at (option_map (kept_in_section functions reached section) table) offset ≡ found_at table offset
  found_still section offset None h = refl
  found_still section offset (Some table) h =
      ap (λ x. cond (nat_lt offset (2 ^ 64)) x None)
      (get_kept nat_cmp_total nat_cmp-IsAntisymmetric table (stays functions reached section) offset ∙ ap (λ b. cond b (get table offset) None) h)

  any_here : (key : FunctionKey) (f : Function) (section offset : ℕ) (es : List (FunctionKey × Function)) → find key_cmp key es ≡ Some f → reached key ≡ true → lies_in section offset f ≡ true
      → list_any (λ e. reached e.0 && lies_in section offset e.1) es ≡ true
  any_here key f section offset [] at r h = cc
  any_here key f section offset (e ∷ es) at r h = step (eq_by_cmp key_cmp key e.0) refl (λ g. any_here key f section offset es g r h) at
    where
      here : key ≡ e.0 → e.1 ≡ f → (reached e.0 && lies_in section offset e.1) ≡ true
      here k v =
          (λ i. reached (sym k i) && lies_in section offset (v i))
          ∙ ap (λ b. b && lies_in section offset f) r
          ∙ h

      always : (b : Bool) → (b || true) ≡ true
      always true = refl
      always false = refl

      step : (b : Bool) → eq_by_cmp key_cmp key e.0 ≡ b → (find key_cmp key es ≡ Some f → list_any (λ e. reached e.0 && lies_in section offset e.1) es ≡ true) → cond b (Some e.1) (find key_cmp key es) ≡ Some f → ((reached e.0 && lies_in section offset e.1) || list_any (λ e. reached e.0 && lies_in section offset e.1) es) ≡ true
      step true is rest g =
          let k : key ≡ e.0 = key_exact key e.0 (is_equal _ is) in
          let v : e.1 ≡ f = cc in
          ap (λ b. b || list_any (λ e. reached e.0 && lies_in section offset e.1) es) (here k v)
      step false is rest g = ap (λ b. (reached e.0 && lies_in section offset e.1) || b) (rest g) ∙ always _

  -- each slot of a function lies in it
  slot_lies : (f : Function) (i : ℕ) → i < length f.instructions → lies_in f.section_index.0 (f.section_offset + 8 * i) f ≡ true
  slot_lies f i lt =
      let same : (f.section_index.0 == f.section_index.0) ≡ true = grind (arith, nat_tests) in
      let low : nat_le f.section_offset (f.section_offset + 8 * i) ≡ true = grind (arith, nat_tests) in
      let high : nat_lt (f.section_offset + 8 * i) (f.section_offset + 8 * length f.instructions) ≡ true = grind (arith, nat_tests) in
      rw (same, low, high) refl

  slot_stays : (key : FunctionKey) (f : Function) (i : ℕ) → get functions key ≡ Some f → reached key ≡ true → i < length f.instructions → stays functions reached f.section_index.0 (f.section_offset + 8 * i) ≡ true
  slot_stays key f i at r lt =
      ap (λ b. b || not (lies_in_some functions (λ key. true) f.section_index.0 (f.section_offset + 8 * i)))
      (any_here key f f.section_index.0 (f.section_offset + 8 * i) (entries functions) (sym (get-entries functions key) ∙ at) r (slot_lies f i lt))

  slot_relocation : (relocations : Relocations) (key : FunctionKey) (f : Function) (i : ℕ) → get functions key ≡ Some f → reached key ≡ true → i < length f.instructions
      → found_at (get (kept_relocations functions reached relocations) f.section_index.0) (f.section_offset + 8 * i) ≡ found_at (get relocations f.section_index.0) (f.section_offset + 8 * i)
  slot_relocation relocations key f i at r lt =
      ap (λ x. found_at x (f.section_offset + 8 * i)) (kept_table relocations f.section_index.0)
      ∙ found_still f.section_index.0 (f.section_offset + 8 * i) (get relocations f.section_index.0) (slot_stays key f i at r lt)

-- ---- the laws

pub relocations_stay : RelocationsOfReachedStay
relocations_stay names before after h key f is at i lt =
    ap (λ (o : Object). found_at (get o.relocations f.section_index.0) (f.section_offset + 8 * i)) h.is
    ∙ slot_relocation before.functions h.reached before.relocations key f i at (h.are_reached.complete key is) lt

module _ (names : List (List ℕ)) (before : Object) (reached : FunctionKey → Bool) where
  abbrev left : Object
  left = without_programs names reached before

  same_target : (imm : ℤ) (r : Option ElfRelocation) → relocated_target (own_linkable left) imm r ≡ relocated_target (own_linkable before) imm r
  same_target imm None = refl
  same_target imm (Some r) = refl

  same_slot : (f : Function) (i : ℕ) (slot : Option bpf_insn) → relocation_of (own_linkable left) f i ≡ relocation_of (own_linkable before) f i → slot_reference (own_linkable left) f i slot ≡ slot_reference (own_linkable before) f i slot
  same_slot f i None h = refl
  same_slot f i (Some slot) h =
      ap (λ t. looked_up before.functions f.name (unwrap_or t (own_target f i slot)))
      (ap (relocated_target (own_linkable left) slot.imm) h ∙ same_target slot.imm (relocation_of (own_linkable before) f i))

  same_reference : (key : FunctionKey) (i : ℕ) (f : Option Function) → get before.functions key ≡ f → reached key ≡ true → reference_of (own_linkable left) f i ≡ reference_of (own_linkable before) f i
  same_reference key i None at r = refl
  same_reference key i (Some f) at r = step (slice_get f.instructions i) refl
    where
      step : (slot : Option bpf_insn) → slice_get f.instructions i ≡ slot → slot_reference (own_linkable left) f i slot ≡ slot_reference (own_linkable before) f i slot
      step None is = refl
      step (Some slot) is = same_slot f i (Some slot) (slot_relocation before.functions reached before.relocations key f i at r (slice_get_within f.instructions i slot is))

pub references_stay : ReferencesOfReachedStay
references_stay names before after h key is i =
    ap (λ (o : Object). (functions_of (own_linkable o)).reference key i) h.is
    ∙ same_reference names before h.reached key i (get before.functions key) refl (h.are_reached.complete key is)

-- ---- externs

module _ {X : Type 0} (p : X → Bool) where
  any_left : (xs ys : List X) → list_any p xs ≡ true → list_any p (xs ++ ys) ≡ true
  any_left [] ys h = cc
  any_left (x ∷ xs) ys h = step (p x) (any_left xs ys) h
    where
      step : (b : Bool) → (list_any p xs ≡ true → list_any p (xs ++ ys) ≡ true) → (b || list_any p xs) ≡ true → (b || list_any p (xs ++ ys)) ≡ true
      step true rest g = refl
      step false rest g = rest g

  any_right : (xs ys : List X) → list_any p ys ≡ true → list_any p (xs ++ ys) ≡ true
  any_right [] ys h = h
  any_right (x ∷ xs) ys h = ap (λ b. p x || b) (any_right xs ys h) ∙ always (p x)
    where
      always : (b : Bool) → (b || true) ≡ true
      always true = refl
      always false = refl

module _ (symbols : FinMap nat_cmp Symbol) (name : List ℕ) where
  named_in_section : (offset : ℕ) (r : ElfRelocation) (es : List (ℕ × ElfRelocation)) → find nat_cmp offset es ≡ Some r → extern_name symbols r ≡ Some name
      → is_among (filter_map (λ e. extern_name symbols e.1) es) name ≡ true
  named_in_section offset r [] at is = cc
  named_in_section offset r (e ∷ es) at is = step (eq_by_cmp nat_cmp offset e.0) (λ g. named_in_section offset r es g is) at
    where
      itself : eq_by_cmp text_cmp name name ≡ true
      itself = (eq_by_cmp_equiv text_total).refl name

      more : (x : Option (List ℕ)) → is_among (filter_map (λ e. extern_name symbols e.1) es) name ≡ true → is_among (cons_option x (filter_map (λ e. extern_name symbols e.1) es)) name ≡ true
      more None h = h
      more (Some n) h = any_right (eq_by_cmp text_cmp name) (n ∷ []) (filter_map (λ e. extern_name symbols e.1) es) h

      step : (b : Bool) → (find nat_cmp offset es ≡ Some r → is_among (filter_map (λ e. extern_name symbols e.1) es) name ≡ true) → cond b (Some e.1) (find nat_cmp offset es) ≡ Some r → is_among (cons_option (extern_name symbols e.1) (filter_map (λ e. extern_name symbols e.1) es)) name ≡ true
      step true rest g =
          let same : e.1 ≡ r = cc in
          let here : extern_name symbols e.1 ≡ Some name = ap (extern_name symbols) same ∙ is in
          ap (λ x. is_among (cons_option x (filter_map (λ e. extern_name symbols e.1) es)) name) here ∙ ap (λ b. b || is_among (filter_map (λ e. extern_name symbols e.1) es) name) itself
      step false rest g = more (extern_name symbols e.1) (rest g)

  named_in : (section offset : ℕ) (r : ElfRelocation) (table : SectionRelocations) (es : List (ℕ × SectionRelocations)) → find nat_cmp section es ≡ Some table → get table offset ≡ Some r
      → extern_name symbols r ≡ Some name → is_among (flat_map (λ s. extern_names_in symbols s.1) es) name ≡ true
  named_in section offset r table [] at found is = cc
  named_in section offset r table (e ∷ es) at found is = step (eq_by_cmp nat_cmp section e.0) (λ g. named_in section offset r table es g found is) at
    where
      step : (b : Bool) → (find nat_cmp section es ≡ Some table → is_among (flat_map (λ s. extern_names_in symbols s.1) es) name ≡ true) → cond b (Some e.1) (find nat_cmp section es) ≡ Some table → is_among (extern_names_in symbols e.1 ++ flat_map (λ s. extern_names_in symbols s.1) es) name ≡ true
      step true rest g =
          let same : e.1 ≡ table = cc in
          let here : is_among (extern_names_in symbols table) name ≡ true = named_in_section offset r (entries table) (sym (get-entries table offset) ∙ found) is in
          any_left (eq_by_cmp text_cmp name) (extern_names_in symbols e.1) _ (ap (λ (t : SectionRelocations). is_among (extern_names_in symbols t) name) same ∙ here)
      step false rest g = any_right (eq_by_cmp text_cmp name) (extern_names_in symbols e.1) _ (rest g)

  found_name : (relocations : Relocations) (section offset : ℕ) (r : ElfRelocation) → found_at (get relocations section) offset ≡ Some r → extern_name symbols r ≡ Some name → is_among (extern_names symbols relocations) name ≡ true
  found_name relocations section offset r at is = step (get relocations section) refl at
    where
      below : (b : Bool) (x : Option ElfRelocation) → cond b x None ≡ Some r → x ≡ Some r
      below true x g = g
      below false x g = cc

      step : (t : Option SectionRelocations) → get relocations section ≡ t → found_at t offset ≡ Some r → is_among (extern_names symbols relocations) name ≡ true
      step None there g = cc
      step (Some table) there g = named_in section offset r table (entries relocations) (sym (get-entries relocations section) ∙ there) (below (nat_lt offset (2 ^ 64)) (get table offset) g) is

extern_still : (names : List (List ℕ)) (before : Object) (reached : FunctionKey → Bool) (section offset : ℕ) (r : ElfRelocation) (name : List ℕ)
    → found_at (get (without_programs names reached before).relocations section) offset ≡ Some r
    → extern_name before.symbol_table r ≡ Some name
    → get (without_programs names reached before).externs name ≡ get before.externs name
extern_still names before reached section offset r name at is =
    let kept : Relocations = kept_relocations before.functions reached before.relocations in
    let here : is_among (extern_names before.symbol_table kept) name ≡ true = found_name before.symbol_table name kept section offset r at is in
    get_kept text_total text_exact before.externs (extern_stays before.symbol_table before.relocations kept) name
    ∙ ap (λ b. cond (b || not (is_among (extern_names before.symbol_table before.relocations) name)) (get before.externs name) None) here

pub externs_stay : ReferredExternsStay
externs_stay names before after h section offset r name at is =
    ap (λ (o : Object). get o.externs name) h.is
    ∙ extern_still names before h.reached section offset r name (subst (λ (o : Object). found_at (get o.relocations section) offset ≡ Some r) h.is at) is

-- ---- one object is left

pub one_left : OneLeavingOut
one_left names before after other a b =
    let same : (key : FunctionKey) → a.reached key ≡ b.reached key = λ key. both_ways (a.reached key) (b.reached key)
    (λ h. b.are_reached.complete key (a.are_reached.sound key h))
    (λ h. a.are_reached.complete key (b.are_reached.sound key h)) in
    a.is ∙ (λ i. without_programs names (λ key. same key i) before) ∙ sym b.is
