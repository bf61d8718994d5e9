-- The linked program computes what the separate functions compute.
use Rattle.std.proofs.Common.{◌≡◌, ℕ, zero, suc, ◌+◌, ◌<◌, Bool, true, false, cond, List, [], ◌∷◌, length, Option, Some, None, refl, sym, ap, ◌∙◌, subst, inl, inr, arith}
use Rattle.std.specs.Prelude.{ℤ, pos, negsuc, ◌+ℤ◌, ◌-ℤ◌, ◌==◌, ◌%◌, option_map}
use Rattle.std.specs.Option.{option_and_then}
use Rattle.std.proofs.lemmas.Int.{ints}
use Rattle.std.proofs.lemmas.Option.{slice_get_within}
use Rattle.ebpf_linker.specs.Functions.{relinked, SlotReference, Nothing, Faulty, Names, Functions, body, Becomes, Linked, flow, slot_at_integer}
use Rattle.ebpf_linker.specs.Machine.{State, StepResult, Goes, Ends, Waits, Leaves, step_at, separate, name, flat_code, OnCallsOrLoads}
use Rattle.ebpf_linker.specs.Behaviour.{SlotMeaning, Plain, RefersTo, Instruction, Semantics, meaning_at, instruction_of, instruction_at, Machine, Execution, Running, Exited, Outside, continued, with_outcome, executed, then_next, execution, started, reference_to, separate_meaning, separate_code, linked_meaning, linked_code, SameExecution, SameBehaviour}
use Rattle.ebpf_linker.proofs.Visits.{CallsRefer, named_at, Stands, AllStand, Alike, StepsAlike, stands_moved, follow_alike, fits_at, of_slots, three, in_turn, three_linked}
use Rattle.ebpf_parts.specs.Slots.{dst_of, is_pseudo_call, ld_imm64}
use Rattle.ebpf_parts.specs.declared.insn.bpf_insn.{bpf_insn}

-- linking leaves a slot's destination
kept_destination : (c : Bool) (regs : ℕ) → cond c regs (64 + regs % 16) % 16 ≡ regs % 16
kept_destination true regs = refl
kept_destination false regs = omega arith

same_destination : (s : bpf_insn) (d : ℤ) → dst_of (relinked s d) ≡ dst_of s
same_destination s d = kept_destination (is_pseudo_call s) s.regs

-- a function that is referred to has a slot
has_slot : {K : Type 0} (key : K) (slots : List bpf_insn) (s : bpf_insn) (m : SlotMeaning K) → reference_to key slots s ≡ Some m → (0 < length slots) × (Some (RefersTo s.code (dst_of s) s.off key) ≡ Some m)
has_slot key [] s m h = cc
has_slot key (first ∷ rest) s m h = (omega arith, h)

-- an instruction stays the same where its second slot does
with_second : {K : Type 0} (wide : Bool) (m : SlotMeaning K) (o u : Option (SlotMeaning K)) (i : Instruction K) → ((n : SlotMeaning K) → o ≡ Some n → u ≡ Some n) → cond wide (option_map (λ second. record { first = m; second = Some second }) o) (Some (record { first = m; second = None })) ≡ Some i → cond wide (option_map (λ second. record { first = m; second = Some second }) u) (Some (record { first = m; second = None })) ≡ Some i
with_second true m None u i f h = cc
with_second true m (Some n) u i f h = rw (f n refl) h
with_second false m o u i f h = h

module _ {K E : Type 0} (F : Functions K E) (p : K) (ks : List K) (out : List bpf_insn) where
  -- what a slot means, it means once it is linked
  meaning_kept : (k : K) (b i : ℕ) (s t : bpf_insn) (r : SlotReference K E) (m : SlotMeaning K) → Becomes F p ks (b + i) r s t → separate_meaning F r s ≡ Some m → linked_meaning F (p ∷ ks) (pos (b + i)) t r ≡ Some m
  meaning_kept k b i s t Nothing m becomes h = ap (λ (u : bpf_insn). Some (Plain u)) becomes ∙ h
  meaning_kept k b i s t (Faulty e) m becomes h = absurd becomes
  meaning_kept k b i s t (Names q) m (c, begins, is) h =
      let (lt, means) = has_slot q (body F q) s m h in
      let d : ℤ = pos (length (body F p) + c) -ℤ pos (b + i + 1) in
      let to : (pos (b + i) +ℤ pos 1) +ℤ (pos (length (body F p) + c) -ℤ pos (b + i + 1)) ≡ pos (length (body F p) + c + 0) = omega (arith, ints) in
      let n : name F (p ∷ ks) ((pos (b + i) +ℤ pos 1) +ℤ (pos (length (body F p) + c) -ℤ pos (b + i + 1))) ≡ Some (q, pos 0) = ap (name F (p ∷ ks)) to ∙ named_at F (p ∷ ks) q (length (body F p) + c) 0 (inr (c, refl, begins)) lt in
      subst (λ (u : bpf_insn). linked_meaning F (p ∷ ks) (pos (b + i)) u (Names q) ≡ Some m) (sym is) (rw (n, same_destination s (pos (length (body F p) + c) -ℤ pos (b + i + 1))) means)

  code_kept : (place : ℕ) (s t : bpf_insn) (r : SlotReference K E) → Becomes F p ks place r s t → t.code ≡ s.code
  code_kept place s t Nothing becomes = ap (λ (u : bpf_insn). u.code) becomes
  code_kept place s t (Faulty e) becomes = absurd becomes
  code_kept place s t (Names q) (c, begins, is) = ap (λ (u : bpf_insn). u.code) is

  -- the linked slot of a slot: it has the code, and means the same
  record IsCopy (x : K × ℤ) (y : ℤ) (s t : bpf_insn) : Type 0 where
    code_is : t.code ≡ s.code
    means : (m : SlotMeaning K) → (separate_code F).meaning x s ≡ Some m → (linked_code F (p ∷ ks) out).meaning y t ≡ Some m

  copy_at : Linked F p ks out → (x : K × ℤ) (y : ℤ) (s : bpf_insn) → Stands F p ks out x y → slot_at_integer (body F x.0) x.1 ≡ Some s → (t : bpf_insn) × (slot_at_integer out y ≡ Some t) × IsCopy x y s t
  copy_at linked (k, negsuc i) y s h e = cc
  copy_at linked (k, pos i) y s (b, h, is) e =
      let g = linked.slots k b i s h e in
      let n : name F (p ∷ ks) (pos (b + i)) ≡ Some (k, pos i) = named_at F (p ∷ ks) k b i h (slice_get_within (body F k) i s e) in
      let c : IsCopy (k, pos i) (pos (b + i)) s g.0 = record {
        code_is = code_kept (b + i) s g.0 (F.reference k i) g.2;
        means = λ m means. rw n (meaning_kept k b i s g.0 (F.reference k i) m g.2 means);
      } in
      (g.0, ap (slot_at_integer out) is ∙ g.1, subst (λ (w : ℤ). IsCopy (k, pos i) w s g.0) (sym is) c)

  meaning_same_at : Linked F p ks out → (x : K × ℤ) (y : ℤ) → Stands F p ks out x y → (o : Option bpf_insn) → slot_at_integer (body F x.0) x.1 ≡ o → (m : SlotMeaning K) → option_and_then ((separate_code F).meaning x) o ≡ Some m → meaning_at (linked_code F (p ∷ ks) out) y ≡ Some m
  meaning_same_at linked x y h None e m means = cc
  meaning_same_at linked x y h (Some s) e m means = let g = copy_at linked x y s h e in rw g.1 (g.2.means m means)

  meaning_same : Linked F p ks out → (x : K × ℤ) (y : ℤ) → Stands F p ks out x y → (m : SlotMeaning K) → meaning_at (separate_code F) x ≡ Some m → meaning_at (linked_code F (p ∷ ks) out) y ≡ Some m
  meaning_same linked x y h m means = meaning_same_at linked x y h (slot_at_integer (body F x.0) x.1) refl m means

  instruction_with : Linked F p ks out → (x : K × ℤ) (y : ℤ) (s t : bpf_insn) → Stands F p ks out x y → IsCopy x y s t → (i : Instruction K) (o : Option (SlotMeaning K)) → (separate_code F).meaning x s ≡ o → option_and_then (instruction_of (separate_code F) x s) o ≡ Some i → option_and_then (instruction_of (linked_code F (p ∷ ks) out) y t) ((linked_code F (p ∷ ks) out).meaning y t) ≡ Some i
  instruction_with linked x y s t h c i None e is = cc
  instruction_with linked x y s t h c i (Some m) e is =
      rw (c.means m e, c.code_is) (with_second (s.code == ld_imm64) m (meaning_at (separate_code F) (x.0, x.1 +ℤ pos 1)) (meaning_at (linked_code F (p ∷ ks) out) (y +ℤ pos 1)) i (λ n means. meaning_same linked (x.0, x.1 +ℤ pos 1) (y +ℤ pos 1) (stands_moved F p ks out x y (pos 1) h) n means) is)

  instruction_same_at : Linked F p ks out → (x : K × ℤ) (y : ℤ) → Stands F p ks out x y → (i : Instruction K) (o : Option bpf_insn) → slot_at_integer (body F x.0) x.1 ≡ o → option_and_then (λ slot. option_and_then (instruction_of (separate_code F) x slot) ((separate_code F).meaning x slot)) o ≡ Some i → instruction_at (linked_code F (p ∷ ks) out) y ≡ Some i
  instruction_same_at linked x y h i None e is = cc
  instruction_same_at linked x y h i (Some s) e is =
      let g = copy_at linked x y s h e in rw g.1 (instruction_with linked x y s g.0 h g.2 i ((separate_code F).meaning x s) refl is)

  -- corresponding slots hold one instruction
  instruction_same : Linked F p ks out → (x : K × ℤ) (y : ℤ) → Stands F p ks out x y → (i : Instruction K) → instruction_at (separate_code F) x ≡ Some i → instruction_at (linked_code F (p ∷ ks) out) y ≡ Some i
  instruction_same linked x y h i is = instruction_same_at linked x y h i (slot_at_integer (body F x.0) x.1) refl is

  -- one step of the flow of control
  step_same : Linked F p ks out → CallsRefer F → OnCallsOrLoads F (p ∷ ks) → (s : State (K × ℤ)) (t : State ℤ) → Alike F p ks out s t → (o : Option bpf_insn) → slot_at_integer (body F s.place.0) s.place.1 ≡ o → StepsAlike F p ks out (step_at (separate F) s o) (step_at (flat_code out) t (slot_at_integer out t.place))
  step_same linked refer on s t a None e = tt
  step_same linked refer on s t a (Some i) e =
      let g = fits_at F p ks out linked refer on s.place t.place i a.place e in
      rw (g.1, g.2.flow_is) (follow_alike F p ks out s t i g.0 (flow i) a refl g.2)

module _ {K E S : Type 0} (F : Functions K E) (p : K) (ks : List K) (out : List bpf_insn) (semantics : Semantics K S) where
  record Together (m : Machine (K × ℤ) S) (n : Machine ℤ S) : Type 0 where
    place : Stands F p ks out m.place n.place
    stack : AllStand F p ks out m.stack n.stack
    state : n.state ≡ m.state

  abbrev AreTogether : Execution (K × ℤ) S → Execution ℤ S → Type 0
  AreTogether (Running m) (Running n) = Together m n
  AreTogether (Exited s) (Exited t) = t ≡ s
  AreTogether Outside q = Unit {0}
  AreTogether (Running m) (Exited t) = ⊥
  AreTogether (Running m) Outside = ⊥
  AreTogether (Exited s) (Running n) = ⊥
  AreTogether (Exited s) Outside = ⊥

  continued_same : (u : StepResult (K × ℤ)) (v : StepResult ℤ) (s t : S) → t ≡ s → StepsAlike F p ks out u v → AreTogether (continued s u) (continued t v)
  continued_same (Goes a) (Goes b) s t e h = record { place = h.place; stack = h.stack; state = e }
  continued_same Ends Ends s t e h = e
  continued_same Waits v s t e h = tt
  continued_same Leaves v s t e h = tt
  continued_same (Goes a) Ends s t e h = absurd h
  continued_same (Goes a) Waits s t e h = absurd h
  continued_same (Goes a) Leaves s t e h = absurd h
  continued_same Ends (Goes b) s t e h = absurd h
  continued_same Ends Waits s t e h = absurd h
  continued_same Ends Leaves s t e h = absurd h

  executed_same : Linked F p ks out → CallsRefer F → OnCallsOrLoads F (p ∷ ks) → (m : Machine (K × ℤ) S) (n : Machine ℤ S) → Together m n → (o : Option (Instruction K)) → instruction_at (separate_code F) m.place ≡ o → AreTogether (executed (separate_code F) semantics m o) (executed (linked_code F (p ∷ ks) out) semantics n (instruction_at (linked_code F (p ∷ ks) out) n.place))
  executed_same linked refer on m n a None e = tt
  executed_same linked refer on m n a (Some i) e =
      let alike : Alike F p ks out (with_outcome m (semantics.is_taken i m.state)) (with_outcome n (semantics.is_taken i n.state)) = record {
        place = a.place;
        stack = a.stack;
        decisions = ap (λ (s : S). semantics.is_taken i s ∷ []) a.state;
      } in
      let turns = step_same F p ks out linked refer on (with_outcome m (semantics.is_taken i m.state)) (with_outcome n (semantics.is_taken i n.state)) alike (slot_at_integer (body F m.place.0) m.place.1) refl in
      rw (instruction_same F p ks out linked m.place n.place a.place i e) (continued_same _ _ (semantics.state_after i m.state) (semantics.state_after i n.state) (ap (semantics.state_after i) a.state) turns)

  then_same : (f : Machine (K × ℤ) S → Execution (K × ℤ) S) (g : Machine ℤ S → Execution ℤ S) (u : Execution (K × ℤ) S) (v : Execution ℤ S) → AreTogether u v → ((m : Machine (K × ℤ) S) (n : Machine ℤ S) → Together m n → SameExecution F (p ∷ ks) (f m) (g n)) → SameExecution F (p ∷ ks) (then_next f u) (then_next g v)
  then_same f g (Running m) (Running n) h rest = rest m n h
  then_same f g (Exited s) (Exited t) h rest = h
  then_same f g Outside q h rest = tt
  then_same f g (Running m) (Exited t) h rest = absurd h
  then_same f g (Running m) Outside h rest = absurd h
  then_same f g (Exited s) (Running n) h rest = absurd h
  then_same f g (Exited s) Outside h rest = absurd h

  execution_same : Linked F p ks out → CallsRefer F → OnCallsOrLoads F (p ∷ ks) → (k : ℕ) (m : Machine (K × ℤ) S) (n : Machine ℤ S) → Together m n → SameExecution F (p ∷ ks) (execution (separate_code F) semantics k m) (execution (linked_code F (p ∷ ks) out) semantics k n)
  execution_same linked refer on zero m n a = (a.place, a.state)
  execution_same linked refer on (suc k) m n a =
      then_same (execution (separate_code F) semantics k) (execution (linked_code F (p ∷ ks) out) semantics k) _ _ (executed_same linked refer on m n a (instruction_at (separate_code F) m.place) refl) (execution_same linked refer on k)

-- under every semantics the linked program is in the state of the separate functions
pub same_behaviour : {S K E : Type 0} (F : Functions K E) (p : K) (ks : List K) (out : List bpf_insn) → Linked F p ks out → CallsRefer F → OnCallsOrLoads F (p ∷ ks) → SameBehaviour S F p ks out
same_behaviour F p ks out linked refer on semantics start n =
    execution_same F p ks out semantics linked refer on n (started (p, pos 0) start) (started (pos 0) start) (record { place = (0, inl (refl, refl), refl); stack = tt; state = refl })

-- ---- which functions a small program refers to: P calls f and g, f calls g

abbrev with_key : SlotMeaning ℕ → List ℕ → List ℕ
with_key (Plain slot) keys = keys
with_key (RefersTo code destination offset key) keys = key ∷ keys

-- a state is the list of the functions that were referred to, the last one first
abbrev referring : Semantics ℕ (List ℕ)
referring = record { state_after = λ i keys. with_key i.first keys; is_taken = λ i keys. false }

separate_refers : execution (separate_code (of_slots three in_turn)) referring 7 (started (0, pos 0) []) ≡ Exited (2 ∷ 2 ∷ 1 ∷ [])
unfolding flow
separate_refers = refl

linked_refers : execution (linked_code (of_slots three in_turn) (0 ∷ 1 ∷ 2 ∷ []) three_linked) referring 7 (started (pos 0) []) ≡ Exited (2 ∷ 2 ∷ 1 ∷ [])
unfolding flow
linked_refers = refl
