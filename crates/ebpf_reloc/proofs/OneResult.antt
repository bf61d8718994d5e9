-- Linking the programs of an object has one result, and each program one map, which is that of the linked program.
use Rattle.std.proofs.Common.{◌≡◌, ◌+◌, ◌<◌, ◌≤◌, ℕ, zero, suc, Bool, true, false, List, [], ◌∷◌, Option, Some, None, Ok, Err, refl, sym, ap, subst, ◌∙◌, ⊎_elim, inl, arith, length, map}
use Rattle.std.specs.Prelude.{slice_get, is_some, MatchOption, ◌||◌}
use Rattle.std.specs.FinMap.{FinMap, get, same_map}
use Rattle.std.specs.List.{list_any}
use Rattle.std.specs.Ordering.{eq_by_cmp}
use Rattle.std.specs.Cmp.{eq_by_cmp_equiv}
use Rattle.std.proofs.lemmas.Bool.{cases_lt}
use Rattle.ebpf_base.proofs.Maps.{key_exact}
use Rattle.ebpf_base.specs.Maps.{key_cmp, key_total}
use Rattle.ebpf_linker.proofs.Behaves.{same_behaviour}
use Rattle.ebpf_linker.proofs.OneResult.{one_layout, one_program, one_fault, not_linked, plain_stays, one_link_map, same_size, lands}
use Rattle.ebpf_linker.proofs.Visits.{same_visits}
use Rattle.ebpf_linker.proofs.Whole.{can_be_linked}
use Rattle.ebpf_linker.specs.Behaviour.{SameBehaviour}
use Rattle.ebpf_linker.specs.Faults.{LeastFault, checked_references}
use Rattle.ebpf_linker.specs.LinkMap.{CopyOf, Lands, copied_slot_count}
use Rattle.ebpf_linker.specs.Result.{IsLayout}
use Rattle.ebpf_model.specs.Symbols.{FunctionKey}
use Rattle.ebpf_model.specs.declared.error.EbpfRelocationError.{EbpfRelocationError}
use Rattle.ebpf_model.specs.declared.error.RelocationError.{RelocationError}
use Rattle.ebpf_model.specs.declared.error.RelocationError.TheVariants.{UnknownProgram}
use Rattle.ebpf_model.specs.declared.function.Function.{Function}
use Rattle.ebpf_parts.specs.declared.insn.bpf_insn.{bpf_insn}
use Rattle.ebpf_reloc.proofs.CallsRefer.{calls_refer}
use Rattle.ebpf_reloc.specs.Laws.{OneResult, OneProgram, OwnSlotsStay, CopiedSlotsStay, copy_of, OneLinkMap, OneLinkMapAnswer, RefusedAsLinking, LinkMapsMatch, WithLinkMapAreLinked, FirstWithoutLinkMap, AllWithLinkMaps, LinkedBehaveAlike}
use Rattle.ebpf_reloc.specs.Linking.{ProgramValue, key_of, with_linked, IsLinked, IsProgramFault, IsProgramRefusal, AreLinked, IsFirstRefusal, code_copy, IsLinkMapAt}
use Rattle.ebpf_reloc.specs.References.{functions_of}
use Rattle.ebpf_reloc.specs.SlotTargets.{LinkableValue}
use Rattle.ebpf_reloc.specs.declared.link_map.LinkMap.{LinkMap}

same_value : {X : Type 0} (o : Option X) (x y : X) → o ≡ Some x → o ≡ Some y → x ≡ y
same_value o x y a b = cc

-- ---- programs

same_function : (parts : LinkableValue) (key : FunctionKey) (f g : Function) (a : IsLinked parts key f) (b : IsLinked parts key g) → a.function ≡ b.function
same_function parts key f g a b = same_value (get parts.functions key) a.function b.function a.stands b.stands

pub one_way : (parts : LinkableValue) (key : FunctionKey) (f g : Function) → IsLinked parts key f → IsLinked parts key g → f ≡ g
one_way parts key f g a b =
    let function = same_function parts key f g a b in
    let made : a.made ≡ b.made = one_program (functions_of parts) key a.order b.order a.made b.made a.program b.program in
    a.is ∙ (λ i. with_linked (function i) (made i)) ∙ sym b.is

pub one_program_each : OneProgram
one_program_each parts key f g a b = (one_way parts key f g a b, one_layout (functions_of parts) key a.order b.order a.program.layout b.program.layout)

-- ---- faults

one_fault_of : (parts : LinkableValue) (key : FunctionKey) (d e : RelocationError) → IsProgramFault parts key d → IsProgramFault parts key e → d ≡ e
one_fault_of parts key d e a b = step (get parts.functions key) a b
  where
    step : (o : Option Function) → MatchOption o (d ≡ UnknownProgram key.0 key.1) (λ _. LeastFault (functions_of parts) (checked_references (functions_of parts) key) key d) → MatchOption o (e ≡ UnknownProgram key.0 key.1) (λ _. LeastFault (functions_of parts) (checked_references (functions_of parts) key) key e) → d ≡ e
    step None h g = h ∙ sym g
    step (Some f) h g = one_fault (functions_of parts) (checked_references (functions_of parts) key) key d e h g

pub one_refusal : (parts : LinkableValue) (program : ProgramValue) (d e : EbpfRelocationError) → IsProgramRefusal parts program d → IsProgramRefusal parts program e → d ≡ e
one_refusal parts program d e a b =
    let name : d.function ≡ e.function = a.0 ∙ sym b.0 in
    let error : d.error ≡ e.error = one_fault_of parts (key_of program) d.error e.error a.1 b.1 in
    λ i. record { function = name i; error = error i }

-- a program that is linked is not refused
pub not_faulty : (parts : LinkableValue) (key : FunctionKey) (f : Function) (order : List FunctionKey) (e : RelocationError) → get parts.functions key ≡ Some f → IsLayout (functions_of parts) key order → IsProgramFault parts key e → ⊥
not_faulty parts key f order e stands layout h =
    let fault : LeastFault (functions_of parts) (checked_references (functions_of parts) key) key e = subst (λ (o : Option Function). MatchOption o (e ≡ UnknownProgram key.0 key.1) (λ _. LeastFault (functions_of parts) (checked_references (functions_of parts) key) key e)) stands h in
    not_linked (functions_of parts) key order e layout fault

pub not_refused : (parts : LinkableValue) (key : FunctionKey) (f : Function) (e : RelocationError) → IsLinked parts key f → IsProgramFault parts key e → ⊥
not_refused parts key f e a h = not_faulty parts key a.function a.order e a.stands a.program.layout h

-- under every semantics a linked program is in the state of the separate functions
pub linked_behave_alike : {S : Type 0} → LinkedBehaveAlike S
linked_behave_alike {S = S} parts key linked is on =
    let slots : is.made.slots ≡ linked.instructions = sym (ap (λ (f : Function). f.instructions) is.is) in
    subst (SameBehaviour S (functions_of parts) key is.order) slots (same_behaviour (functions_of parts) key is.order is.made.slots is.program.linked (calls_refer parts) on)

-- ---- all programs

one_map : (parts : LinkableValue) (programs : List ProgramValue) (m n : FinMap key_cmp Function) → AreLinked parts programs m → AreLinked parts programs n → m ≡ n
one_map parts programs m n a b = same_map key_total key_exact m n (λ key. step key (get m key) (get n key) refl refl (a.keys key ∙ sym (b.keys key)))
  where
    step : (key : FunctionKey) (o q : Option Function) → get m key ≡ o → get n key ≡ q → is_some (get m key) ≡ is_some (get n key) → get m key ≡ get n key
    step key None None at at' same = at ∙ sym at'
    step key None (Some g) at at' same = let clash : false ≡ true = sym (ap is_some at) ∙ same ∙ ap is_some at' in cc
    step key (Some f) None at at' same = let clash : true ≡ false = sym (ap is_some at) ∙ same ∙ ap is_some at' in cc
    step key (Some f) (Some g) at at' same = at ∙ ap Some (one_way parts key f g (a.each key f at) (b.each key g at')) ∙ sym at'

one_first : (parts : LinkableValue) (programs : List ProgramValue) (d e : EbpfRelocationError) → IsFirstRefusal parts programs d → IsFirstRefusal parts programs e → d ≡ e
one_first parts programs d e a b = ⊎_elim
    (λ (low : a.index < b.index). let earlier = b.before a.index a.program low a.at in absurd (not_refused parts (key_of a.program) earlier.0 d.error earlier.1 a.refused.1))
    (λ (rest : b.index ≤ a.index). ⊎_elim
    (λ (low : b.index < a.index). let earlier = a.before b.index b.program low b.at in absurd (not_refused parts (key_of b.program) earlier.0 e.error earlier.1 b.refused.1))
    (λ (same : a.index ≤ b.index).
    let index : a.index ≡ b.index = omega arith in
    let program : a.program ≡ b.program = same_value (slice_get programs b.index) a.program b.program (ap (slice_get programs) (sym index) ∙ a.at) b.at in
    one_refusal parts b.program d e (subst (λ (p : ProgramValue). IsProgramRefusal parts p d) program a.refused) b.refused)
    (cases_lt b.index a.index))
    (cases_lt a.index b.index)

pub any_at : (p : ProgramValue → Bool) (programs : List ProgramValue) (i : ℕ) (program : ProgramValue) → slice_get programs i ≡ Some program → p program ≡ true → list_any p programs ≡ true
any_at p [] i program at h = cc
any_at p (q ∷ programs) zero program at h = let same : q ≡ program = cc in ap (λ r. p r || list_any p programs) same ∙ ap (λ b. b || list_any p programs) h
any_at p (q ∷ programs) (suc i) program at h = ap (λ b. p q || b) (any_at p programs i program at h) ∙ or_true (p q)
  where
    or_true : (b : Bool) → (b || true) ≡ true
    or_true true = refl
    or_true false = refl

not_both : (parts : LinkableValue) (programs : List ProgramValue) (m : FinMap key_cmp Function) (e : EbpfRelocationError) → AreLinked parts programs m → IsFirstRefusal parts programs e → ⊥
not_both parts programs m e a h =
    let key = key_of h.program in
    let there : is_some (get m key) ≡ true = a.keys key ∙ any_at (λ p. eq_by_cmp key_cmp key (key_of p)) programs h.index h.program h.at ((eq_by_cmp_equiv key_total).refl key) in
    step (get m key) refl there
  where
    step : (o : Option Function) → get m (key_of h.program) ≡ o → is_some (get m (key_of h.program)) ≡ true → ⊥
    step None at is = let clash : false ≡ true = sym (ap is_some at) ∙ is in cc
    step (Some f) at is = not_refused parts (key_of h.program) f e.error (a.each (key_of h.program) f at) h.refused.1

pub one_result : OneResult
one_result parts programs (Ok m) (Ok n) a b = ap Ok (one_map parts programs m n a b)
one_result parts programs (Ok m) (Err e) a b = absurd (not_both parts programs m e a b)
one_result parts programs (Err d) (Ok n) a b = absurd (not_both parts programs n d b a)
one_result parts programs (Err d) (Err e) a b = ap Err (one_first parts programs d e a b)

-- ---- plain slots

pub copied_slots_stay : CopiedSlotsStay
copied_slots_stay parts key linked is copied base i slot begins plain =
    ap (λ f. slice_get f.instructions (base + i)) is.is
    ∙ plain_stays (functions_of parts) key is.order is.made.slots is.program.linked copied base i slot begins plain.0 plain.1

pub own_slots_stay : OwnSlotsStay
own_slots_stay parts key linked is i slot plain =
    let e : i ≡ 0 + i = omega arith in
    ap (slice_get linked.instructions) e ∙ copied_slots_stay parts key linked is key 0 i slot (inl (refl, refl)) plain

-- ---- a program has one link map, which is that of the linked program, and is refused as linking it is

pub one : OneLinkMap
one parts key m n a b =
    let same = one_link_map (functions_of parts) key a.order b.order a.copies b.copies m.references n.references a.program b.program in
    let copies : m.copies ≡ n.copies = a.named ∙ ap (map (code_copy parts.functions)) same.1 ∙ sym b.named in
    (λ i. record { copies = copies i; references = same.2 i }, same.0)

-- a program with a map is not refused
not_mapped : (parts : LinkableValue) (key : FunctionKey) (m : LinkMap) (e : RelocationError) → IsLinkMapAt parts key m → IsProgramFault parts key e → ⊥
not_mapped parts key m e a h = not_faulty parts key a.function a.order e a.stands a.program.layout h

pub one_answer : OneLinkMapAnswer
one_answer parts program (Ok m) (Ok n) a b = ap Ok (one parts (key_of program) m n a b).0
one_answer parts program (Ok m) (Err e) a b = absurd (not_mapped parts (key_of program) m e.error a b.1)
one_answer parts program (Err d) (Ok n) a b = absurd (not_mapped parts (key_of program) n d.error b a.1)
one_answer parts program (Err d) (Err e) a b = ap Err (one_refusal parts program d e a b)

-- ---- linking one program alone

only : (program p : ProgramValue) (i : ℕ) → slice_get (program ∷ []) i ≡ Some p → p ≡ program
only program p zero at = cc
only program p (suc i) at = cc

refused_alone : (parts : LinkableValue) (program : ProgramValue) (e : EbpfRelocationError) → IsFirstRefusal parts (program ∷ []) e → IsProgramRefusal parts program e
refused_alone parts program e h = subst (λ (p : ProgramValue). IsProgramRefusal parts p e) (only program h.program h.index h.at) h.refused

linked_alone : (parts : LinkableValue) (program : ProgramValue) (m : FinMap key_cmp Function) → AreLinked parts (program ∷ []) m → (g : Function) × IsLinked parts (key_of program) g
linked_alone parts program m h = step (get m (key_of program)) refl (h.keys (key_of program) ∙ ap (λ b. b || false) ((eq_by_cmp_equiv key_total).refl (key_of program)))
  where
    step : (o : Option Function) → get m (key_of program) ≡ o → is_some (get m (key_of program)) ≡ true → (g : Function) × IsLinked parts (key_of program) g
    step None at is = let clash : false ≡ true = sym (ap is_some at) ∙ is in cc
    step (Some g) at is = (g, h.each (key_of program) g at)

pub refused_as_linking : RefusedAsLinking
refused_as_linking parts program (Ok m) (Ok linked) a b = tt
refused_as_linking parts program (Ok m) (Err e) a b = not_mapped parts (key_of program) m e.error a (refused_alone parts program e b).1
refused_as_linking parts program (Err d) (Ok linked) a b = let (g, is) = linked_alone parts program linked b in not_refused parts (key_of program) g d.error is a.1
refused_as_linking parts program (Err d) (Err e) a b = one_refusal parts program d e a (refused_alone parts program e b)

-- ---- the linked program

without_names : (parts : LinkableValue) (cs : List (CopyOf FunctionKey)) → map copy_of (map (code_copy parts.functions) cs) ≡ cs
without_names parts [] = refl
without_names parts (c ∷ cs) = ap (λ (u : List (CopyOf FunctionKey)). c ∷ u) (without_names parts cs)

pub link_maps_match : LinkMapsMatch
link_maps_match parts key m linked a b =
    let copies : a.copies ≡ map copy_of m.copies = sym (ap (map copy_of) a.named ∙ without_names parts a.copies) in
    let slots : b.made.slots ≡ linked.instructions = sym (ap (λ (f : Function). f.instructions) b.is) in
    record {
      order = one_layout (functions_of parts) key a.order b.order a.program.layout b.program.layout;
      size = ap copied_slot_count (sym copies) ∙ same_size (functions_of parts) key a.order b.order a.copies m.references b.made a.program b.program ∙ ap length slots;
      lands = λ r listed.
          let here = lands (functions_of parts) key a.order b.order a.copies m.references b.made a.program b.program r listed in
          subst (λ (s : List bpf_insn). Lands (functions_of parts) (map copy_of m.copies) s r) slots (subst (λ (cs : List (CopyOf FunctionKey)). Lands (functions_of parts) cs b.made.slots r) copies here);
    }

-- a program that has a map can be linked
pub mapped_are_linked : WithLinkMapAreLinked
mapped_are_linked parts key m a =
    let (made, program) = can_be_linked (functions_of parts) key a.order a.copies m.references a.program in (
      with_linked a.function made,
      record {
        function = a.function;
        stands = a.stands;
        made = made;
        is = refl;
        order = a.order;
        program = program;
        visits = λ on. same_visits (functions_of parts) key a.order made.slots program.linked (calls_refer parts) on;
        behaviour = λ on. same_behaviour (functions_of parts) key a.order made.slots program.linked (calls_refer parts) on;
      },
    )

-- ---- all programs

pub first_without_map : FirstWithoutLinkMap
first_without_map parts programs index program e at refused earlier = record {
  index = index;
  program = program;
  at = at;
  refused = refused;
  before = λ k p below here. let (m, a) = earlier k p below here in mapped_are_linked parts (key_of p) m a;
}

pub all_with_maps : AllWithLinkMaps
all_with_maps parts programs all e h = let (m, a) = all h.index h.program h.at in not_mapped parts (key_of h.program) m e.error a h.refused.1
