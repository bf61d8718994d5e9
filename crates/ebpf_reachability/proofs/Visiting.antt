-- Steps that the search takes in.
use Rattle.std.proofs.Common.{◌≡◌, ◌≢◌, ℕ, ◌+◌, ◌<◌, ◌≤◌, ◌⊎◌, List, [], ◌∷◌, ◌++◌, length, Option, Some, None, refl, sym, ap, ◌∙◌, subst, inl, inr, arith, set, length-set, length-append, get_or-set_same, get_or-set_other, get_or, pos, replicate, zero, suc, Bool, true, false, cond, negsuc, ℤ, ◌+ℤ◌}
use Rattle.std.proofs.lemmas.List.Sums.{sum_by-set}
use Rattle.std.proofs.lemmas.Bool.Decides.{eqb_tells, leb_tells}
use Rattle.std.proofs.lemmas.List.{get_or-replicate, get_or_past, length-replicate}
use Rattle.std.specs.Prelude.{slice_get, IsSome}
use Rattle.std.proofs.lemmas.Option.{slice_get_within}
use Rattle.ebpf_linker.specs.Functions.{Among, Flow, Return, PseudoCall, WideLoad, Jump, Branch, Next, flow, slot_at_integer}
use Rattle.ebpf_linker.specs.Machine.{State, StepResult, Goes, Ends, Waits, Leaves, run_steps, begin, flat_code, step_at, follow, after_step}
use Rattle.ebpf_parts.specs.Slots.{dst_of}
use Rattle.ebpf_parts.specs.declared.insn.bpf_insn.{bpf_insn}
use Rattle.ebpf_reachability.proofs.Monotone.{holds_above, holds_both, holds_first, holds_second, state_below_itself, state_below_through, steps_below, leads_held}
use Rattle.ebpf_reachability.proofs.Order.{above_first, above_second, below_itself, fewer_known, known_within, met_below}
use Rattle.ebpf_reachability.specs.Effects.{IsBelow, unknown, known, learned, called}
use Rattle.ebpf_reachability.specs.Effects as effects
use Rattle.ebpf_reachability.specs.PrivateContracts.{least_upper_bound}
use Rattle.ebpf_reachability.specs.Reached.{changes_left, Assignment, IsStateBelow, state_at, TakesIn, work_left, Holds, IsClosed, Searched, steps_if_reached}
use Rattle.ebpf_reachability.specs.Steps.{steps_to, steps}
use Rattle.ebpf_reachability.specs.Steps as ours
use Rattle.ebpf_reachability.specs.Visits.{AllReached, AllVisitsAreReached, Heeds, HeedsAt, HeedsOne, HeedsTurn, DecidesNothing, VisitsAreReached, known_way}
use Rattle.ebpf_reachability.specs.declared.registers.Registers.{Registers}
use Rattle.ebpf_reachability.specs.declared.steps.SlotState.{SlotState}

pub among_last : (xs : List ℕ) (i : ℕ) → Among (xs ++ i ∷ []) i
among_last [] i = inl refl
among_last (x ∷ xs) i = inr (among_last xs i)

pub among_more : (xs : List ℕ) (i j : ℕ) → Among xs j → Among (xs ++ i ∷ []) j
among_more [] i j h = absurd h
among_more (x ∷ xs) i j (inl e) = inl e
among_more (x ∷ xs) i j (inr m) = inr (among_more xs i j m)

pub among_split : (xs : List ℕ) (i j : ℕ) → Among (xs ++ i ∷ []) j → Among xs j ⊎ (i ≡ j)
among_split [] i j (inl e) = inr e
among_split [] i j (inr m) = absurd m
among_split (x ∷ xs) i j (inl e) = inl (inl e)
among_split (x ∷ xs) i j (inr m) = elim (among_split xs i j m) [ inl within ↦ inl (inr within) | inr last ↦ inr last ]

taken_changed : (A B C : Assignment) (mid new : List ℕ) (i : ℕ) → (state_at B i ≡ state_at A i) ⊎ Among mid i → (state_at C i ≡ state_at B i) ⊎ Among new i → (Among mid i → Among new i) → (state_at C i ≡ state_at A i) ⊎ Among new i
taken_changed A B C mid new i (inl p) (inl q) k = inl (q ∙ p)
taken_changed A B C mid new i (inr m) (inl q) k = inr (k m)
taken_changed A B C mid new i p (inr m) k = inr m

pub taken_then : (s t : List SlotState) (A B C : Assignment) (old mid new : List ℕ) → TakesIn s A B old mid → TakesIn t B C mid new → TakesIn (s ++ t) A C old new
taken_then s t A B C old mid new p q = record {
  as_many = q.as_many ∙ p.as_many;
  holds = holds_both C s t (holds_above B C s q.above p.holds) q.holds;
  above = λ i. state_below_through (state_at A i) (state_at B i) (state_at C i) (p.above i) (q.above i);
  least = λ D h k. q.least D (p.least D h (holds_first D s t k)) (holds_second D s t k);
  changed = λ i. taken_changed A B C mid new i (p.changed i) (q.changed i) (q.kept i);
  kept = λ i h. q.kept i (p.kept i h);
  less = let one = p.less in let two = q.less in omega arith;
}

-- nothing is taken in
pub none_taken : (A : Assignment) (old : List ℕ) → TakesIn [] A A old old
none_taken A old = record {
  as_many = refl;
  holds = tt;
  above = λ i. state_below_itself (state_at A i);
  least = λ C h _. h;
  changed = λ i. inl refl;
  kept = λ i h. h;
  less = omega arith;
}

-- one slot more is reached with nothing known
pub next_taken : (n : ℕ) (a : Registers) (A B C : Assignment) (old mid new : List ℕ) → a ≡ unknown → TakesIn (ours.first_slots n) A B old mid → TakesIn (record { place = n; registers = a } ∷ []) B C mid new → TakesIn (ours.first_slots (n + 1)) A C old new
next_taken n a A B C old mid new e p q =
    let more : ours.first_slots (n + 1) ≡ ours.first_slots n ++ record { place = n; registers = unknown } ∷ [] = ap ours.first_slots (let e : n + 1 ≡ suc n = omega arith in e) in
    let here = subst (λ (a : Registers). TakesIn (record { place = n; registers = a } ∷ []) B C mid new) e q in
    subst (λ (s : List SlotState). TakesIn s A C old new) (sym more) (taken_then _ _ A B C old mid new p here)

-- a state is written at a place
written_here : (A : Assignment) (p : ℕ) (c : Registers) → p < length A → state_at (set A p (Some c)) p ≡ Some c
written_here A p c h = get_or-set_same A p (Some c) None h

-- what holds of the written place and of each other one holds of all
at_each : (A : Assignment) (p : ℕ) (c : Registers) → p < length A → (P : ℕ → Option Registers → Type 0) → P p (Some c) → ((i : ℕ) → i ≢ p → P i (state_at A i)) → (i : ℕ) → P i (state_at (set A p (Some c)) i)
at_each A p c h P here others i =
    elim (eqb_tells i p) [
      | inl same ↦ subst (λ (u : ℕ). P u (state_at (set A p (Some c)) u)) (sym same.1) (subst (λ (x : Option Registers). P p x) (sym (written_here A p c h)) here)
      | inr other ↦ subst (λ (x : Option Registers). P i x) (sym (get_or-set_other A p i (Some c) None other.1)) (others i other.1)
    ]

put_less : (A : Assignment) (old : List ℕ) (p : ℕ) (c : Registers) → p < length A → changes_left (Some c) < changes_left (state_at A p) → work_left (set A p (Some c)) (old ++ p ∷ []) ≤ work_left A old
put_less A old p c h fewer =
    let total = sum_by-set changes_left A p (Some c) None h in
    let longer = length-append old (p ∷ []) in
    omega arith

-- A state is written that is above what was there and what the step has, and below all that is.
pub put_taken : (A : Assignment) (old : List ℕ) (p : ℕ) (a c : Registers) → p < length A → IsStateBelow (state_at A p) (Some c) → IsBelow a c → ((z : Option Registers) → IsStateBelow (state_at A p) z → IsStateBelow (Some a) z → IsStateBelow (Some c) z) → changes_left (Some c) < changes_left (state_at A p) → TakesIn (record { place = p; registers = a } ∷ []) A (set A p (Some c)) old (old ++ p ∷ [])
put_taken A old p a c h here step least fewer = record {
  as_many = length-set A p (Some c);
  holds = (let P : Option Registers → Type 0 = λ x. IsStateBelow (Some a) x in subst P (sym (written_here A p c h)) step, tt);
  above = at_each A p c h (λ i x. IsStateBelow (state_at A i) x) here (λ i _. state_below_itself (state_at A i));
  least = λ C below holds. at_each A p c h (λ i x. IsStateBelow x (state_at C i)) (least (state_at C p) (below p) holds.0) (λ i _. below i);
  changed = at_each A p c h (λ i x. (x ≡ state_at A i) ⊎ Among (old ++ p ∷ []) i) (inr (among_last old p)) (λ i _. inl refl);
  kept = λ i m. among_more old p i m;
  less = put_less A old p c h fewer;
}

-- where a slot is reached for the first time
pub new_taken : (A : Assignment) (old : List ℕ) (p : ℕ) (a : Registers) → p < length A → state_at A p ≡ None → length a.numbers ≡ 11 → TakesIn (record { place = p; registers = a } ∷ []) A (set A p (Some a)) old (old ++ p ∷ [])
new_taken A old p a h none eleven = put_taken A old p a a h
    (subst (λ (x : Option Registers). IsStateBelow x (Some a)) (sym none) tt)
    (below_itself a)
    (λ z _ q. q)
    (subst (λ (x : Option Registers). changes_left (Some a) < changes_left x) (sym none) (let within = known_within a.numbers in omega arith))

met_least : (a b : Registers) (z : Option Registers) → IsStateBelow (Some b) z → IsStateBelow (Some a) z → IsStateBelow (Some (least_upper_bound b a)) z
met_least a b None p q = absurd p
met_least a b (Some c) p q = met_below b a c p q

fewer_changes : (a b : Registers) → length b.numbers ≡ length a.numbers → least_upper_bound b a ≢ b → changes_left (Some (least_upper_bound b a)) < changes_left (Some b)
fewer_changes a b h changed =
    elim (fewer_known b.numbers a.numbers h) [
      | inl same ↦ absurd (changed (let make : List (Option ℕ) → Registers = λ numbers. record { numbers = numbers } in ap make same))
      | inr fewer ↦ fewer
    ]

-- where paths meet and a number is forgotten
pub met_taken : (A : Assignment) (old : List ℕ) (p : ℕ) (a b : Registers) → p < length A → state_at A p ≡ Some b → length b.numbers ≡ length a.numbers → least_upper_bound b a ≢ b → TakesIn (record { place = p; registers = a } ∷ []) A (set A p (Some (least_upper_bound b a))) old (old ++ p ∷ [])
met_taken A old p a b h some as_many changed = put_taken A old p a (least_upper_bound b a) h
    (subst (λ (x : Option Registers). IsStateBelow x (Some (least_upper_bound b a))) (sym some) (above_first b a as_many))
    (above_second b a as_many)
    (λ z q r. met_least a b z (subst (λ (x : Option Registers). IsStateBelow x z) some q) r)
    (subst (λ (x : Option Registers). changes_left (Some (least_upper_bound b a)) < changes_left x) (sym some) (fewer_changes a b as_many changed))

-- where they meet and nothing is forgotten
pub same_taken : (A : Assignment) (old : List ℕ) (p : ℕ) (a b : Registers) → state_at A p ≡ Some b → length b.numbers ≡ length a.numbers → least_upper_bound b a ≡ b → TakesIn (record { place = p; registers = a } ∷ []) A A old old
same_taken A old p a b some as_many same = record {
  as_many = refl;
  holds = (subst (λ (x : Option Registers). IsStateBelow (Some a) x) (sym some) (subst (λ (c : Registers). IsBelow a c) same (above_second b a as_many)), tt);
  above = λ i. state_below_itself (state_at A i);
  least = λ C h _. h;
  changed = λ i. inl refl;
  kept = λ i h. h;
  less = omega arith;
}

-- what was taken in, told by other words
pub taken_as : (s : List SlotState) (A B C : Assignment) (old mid new : List ℕ) → C ≡ B → new ≡ mid → TakesIn s A B old mid → TakesIn s A C old new
taken_as s A B C old mid new p q t =
    subst (λ (u : Assignment). TakesIn s A u old new) (sym p) (subst (λ (u : List ℕ). TakesIn s A B old u) (sym q) t)

-- ---- what the search keeps from slot to slot

holds_some : (slots : List bpf_insn) (C : Assignment) (i : ℕ) (a : Registers) (z : Option Registers) → IsClosed slots C → state_at C i ≡ z → IsStateBelow (Some a) z → Holds C (steps slots i a)
holds_some slots C i a None closed is below = absurd below
holds_some slots C i a (Some b) closed is below = steps_below slots C i a b below (closed.steps i b is)

-- a closed assignment holds the steps of all that is below it
closed_holds : (slots : List bpf_insn) (C : Assignment) (i : ℕ) (x : Option Registers) → IsClosed slots C → IsStateBelow x (state_at C i) → Holds C (steps_if_reached slots i x)
closed_holds slots C i None closed below = tt
closed_holds slots C i (Some a) closed below = holds_some slots C i a (state_at C i) closed refl below

-- the slot that was followed is held, and each other one as before
held_on : (slots : List bpf_insn) (A B : Assignment) (rest new : List ℕ) (i j : ℕ) → TakesIn (steps_if_reached slots i (state_at A i)) A B rest new → (state_at B j ≡ state_at A j) ⊎ Among new j → Among (rest ++ i ∷ []) j ⊎ Holds A (steps_if_reached slots j (state_at A j)) → Among new j ⊎ Holds B (steps_if_reached slots j (state_at B j))
held_on slots A B rest new i j t (inr m) h = inl m
held_on slots A B rest new i j t (inl same) (inr h) =
    inr (subst (λ (x : Option Registers). Holds B (steps_if_reached slots j x)) (sym same) (holds_above A B (steps_if_reached slots j (state_at A j)) t.above h))
held_on slots A B rest new i j t (inl same) (inl m) =
    elim (among_split rest i j m) [
      | inl before ↦ inl (t.kept j before)
      | inr last ↦ inr (subst (λ (x : Option Registers). Holds B (steps_if_reached slots j x)) (sym same) (subst (λ (k : ℕ). Holds B (steps_if_reached slots k (state_at A k))) last t.holds))
    ]

pub searched_on : (slots : List bpf_insn) (A B : Assignment) (rest new : List ℕ) (i : ℕ) → Searched slots A (rest ++ i ∷ []) → TakesIn (steps_if_reached slots i (state_at A i)) A B rest new → Searched slots B new
searched_on slots A B rest new i s t = record {
  as_many = t.as_many ∙ s.as_many;
  first = holds_above A B (steps_to slots (pos 0) unknown) t.above s.first;
  least = λ C closed. t.least C (s.least C closed) (closed_holds slots C i (state_at A i) closed (s.least C closed i));
  held = λ j. held_on slots A B rest new i j t (t.changed j) (s.held j);
}

length_nothing : (X : Type 0) (n : ℕ) → length {A = Option X} (replicate n None) ≡ n
length_nothing X n = length-replicate n None

-- nothing is anywhere in a list of nothing
pub nothing_there : (X : Type 0) (n i : ℕ) → get_or {A = Option X} (replicate n None) i None ≡ None
nothing_there X n i =
    elim (leb_tells n i) [
      | inl past ↦ get_or_past (replicate n None) i None (let as_many = length_nothing X n in let above = past.1 in omega arith)
      | inr within ↦ get_or-replicate n i None None within.1
    ]

-- ---- what the machine of the flat program visits

-- a place is reached, if the program has it
abbrev Ready : List bpf_insn → Assignment → ℤ → Type 0
Ready slots A (pos i) = i < length slots → IsSome (state_at A i)
Ready slots A (negsuc i) = Unit {0}

abbrev AllReady : List bpf_insn → Assignment → List ℤ → Type 0
AllReady slots A [] = Unit {0}
AllReady slots A (x ∷ xs) = Ready slots A x × AllReady slots A xs

some_above : (a : Registers) (z : Option Registers) → IsStateBelow (Some a) z → IsSome z
some_above a None h = absurd h
some_above a (Some b) h = refl

-- a place to which a step that is held leads
leads_ready : (slots : List bpf_insn) (A : Assignment) (x : ℤ) (a : Registers) → Holds A (ours.steps_to slots x a) → Ready slots A x
leads_ready slots A (negsuc n) a h = tt
leads_ready slots A (pos n) a h = λ within. some_above a (state_at A n) (leads_held slots A n a within h)

chosen_ready : (slots : List bpf_insn) (A : Assignment) (d : Bool) (there here : ℤ) → Ready slots A there → Ready slots A here → Ready slots A (cond d there here)
chosen_ready slots A true there here p q = p
chosen_ready slots A false there here p q = q

-- the way that is taken is held: the known one, or both
way_ready : (slots : List bpf_insn) (A : Assignment) (a : Registers) (there here : ℤ) (z : Option Bool) (taken : Bool) (decisions : List Bool) → HeedsOne z (taken ∷ decisions) → Holds A (ours.ways z (ours.steps_to slots here a) (ours.steps_to slots there a)) → Ready slots A (cond taken there here)
way_ready slots A a there here None taken decisions heed h =
    let on = ours.steps_to slots here a in
    let off = ours.steps_to slots there a in
    chosen_ready slots A taken there here (leads_ready slots A there a (holds_second A on off h)) (leads_ready slots A here a (holds_first A on off h))
way_ready slots A a there here (Some true) taken decisions heed h =
    subst (λ (d : Bool). Ready slots A (cond d there here)) (sym heed) (leads_ready slots A there a h)
way_ready slots A a there here (Some false) taken decisions heed h =
    subst (λ (d : Bool). Ready slots A (cond d there here)) (sym heed) (leads_ready slots A here a h)

abbrev at_place : ℤ → List ℤ → List Bool → State ℤ
at_place place stack decisions = record { place = place; stack = stack; decisions = decisions }

-- what a heeding run of so many steps visits from each place that is ready
abbrev Visits : List bpf_insn → Assignment → ℕ → Type 0
Visits slots A n = (place : ℤ) (stack : List ℤ) (decisions : List Bool) → Heeds slots A n (at_place place stack decisions) → Ready slots A place → AllReady slots A stack → AllReached A (run_steps (flat_code slots) n (at_place place stack decisions)).visited

visit_by : (slots : List bpf_insn) (A : Assignment) (n i : ℕ) (slot : bpf_insn) (a : Registers) (f : Flow) (stack : List ℤ) (decisions : List Bool) → Visits slots A n → HeedsOne (known_way (Some a) slot f) decisions → HeedsTurn (Heeds slots A n) (follow (flat_code slots) (at_place (pos i) stack decisions) slot f) → Holds A (ours.steps_by_flow slots i slot a f) → AllReady slots A stack → IsSome (state_at A i) → AllReached A (after_step (run_steps (flat_code slots) n) (pos i) (follow (flat_code slots) (at_place (pos i) stack decisions) slot f)).visited
visit_by slots A n i slot a Return [] decisions rest one turn h q here = (here, tt)
visit_by slots A n i slot a Return (x ∷ stack) decisions rest one turn h q here = (here, rest x stack decisions turn q.0 q.1)
visit_by slots A n i slot a PseudoCall stack decisions rest one turn h q here =
    let back = ours.steps_to slots (ours.next_index i) (called a) in
    let there = ours.steps_to slots (ours.target_index i slot.imm) unknown in
    (here, rest (ours.target_index i slot.imm) (ours.next_index i ∷ stack) decisions turn (leads_ready slots A (ours.target_index i slot.imm) unknown (holds_second A back there h)) (leads_ready slots A (ours.next_index i) (called a) (holds_first A back there h), q))
visit_by slots A n i slot a WideLoad stack decisions rest one turn h q here =
    let next = learned a (dst_of slot) (effects.wide_load_result slots i slot) in
    (here, rest (pos i +ℤ pos 2) stack decisions turn (leads_ready slots A (pos i +ℤ pos 2) next (holds_first A (ours.steps_to slots (pos i +ℤ pos 2) next) (ours.callback slots i slot) h)) q)
visit_by slots A n i slot a (Jump d) stack decisions rest one turn h q here =
    (here, rest (ours.target_index i d) stack decisions turn (leads_ready slots A (ours.target_index i d) a h) q)
visit_by slots A n i slot a (Branch d) stack [] rest one turn h q here = (here, tt)
visit_by slots A n i slot a (Branch d) stack (taken ∷ decisions) rest one turn h q here =
    (here, rest (cond taken (ours.target_index i d) (ours.next_index i)) stack decisions turn (way_ready slots A a (ours.target_index i d) (ours.next_index i) (effects.decided slot a) taken decisions one h) q)
visit_by slots A n i slot a Next stack decisions rest one turn h q here =
    (here, rest (ours.next_index i) stack decisions turn (leads_ready slots A (ours.next_index i) (effects.after slot a) h) q)

-- a slot that is there is reached, so that its steps are held
visit_slot : (slots : List bpf_insn) (A : Assignment) (n i : ℕ) (slot : bpf_insn) (z : Option Registers) (stack : List ℤ) (decisions : List Bool) → IsClosed slots A → Visits slots A n → HeedsOne (known_way z slot (flow slot)) decisions → HeedsTurn (Heeds slots A n) (follow (flat_code slots) (at_place (pos i) stack decisions) slot (flow slot)) → slice_get slots i ≡ Some slot → state_at A i ≡ z → IsSome z → AllReady slots A stack → AllReached A (after_step (run_steps (flat_code slots) n) (pos i) (follow (flat_code slots) (at_place (pos i) stack decisions) slot (flow slot))).visited
visit_slot slots A n i slot None stack decisions closed rest one turn there is some q = cc
visit_slot slots A n i slot (Some a) stack decisions closed rest one turn there is some q =
    let held : Holds A (ours.steps_by_flow slots i slot a (flow slot)) = subst (λ (x : Option bpf_insn). Holds A (ours.steps_at slots i a x)) there (holds_first A (ours.steps_at slots i a (slice_get slots i)) (ours.jumps_anywhere slots (slice_get slots i)) (closed.steps i a is)) in
    let here : IsSome (state_at A i) = subst (λ (x : Option Registers). IsSome x) (sym is) refl in
    visit_by slots A n i slot a (flow slot) stack decisions rest one turn held q here

visit_at : (slots : List bpf_insn) (A : Assignment) (n i : ℕ) (x : Option bpf_insn) (stack : List ℤ) (decisions : List Bool) → IsClosed slots A → Visits slots A n → HeedsAt A (pos i) x decisions → HeedsTurn (Heeds slots A n) (step_at (flat_code slots) (at_place (pos i) stack decisions) x) → slice_get slots i ≡ x → Ready slots A (pos i) → AllReady slots A stack → AllReached A (after_step (run_steps (flat_code slots) n) (pos i) (step_at (flat_code slots) (at_place (pos i) stack decisions) x)).visited
visit_at slots A n i None stack decisions closed rest one turn is p q = tt
visit_at slots A n i (Some slot) stack decisions closed rest one turn is p q =
    visit_slot slots A n i slot (state_at A i) stack decisions closed rest one turn is refl (p (slice_get_within slots i slot is)) q

visits : (slots : List bpf_insn) (A : Assignment) → IsClosed slots A → (n : ℕ) → Visits slots A n
visits slots A closed zero place stack decisions heed p q = tt
visits slots A closed (suc n) (negsuc i) stack decisions heed p q = tt
visits slots A closed (suc n) (pos i) stack decisions heed p q =
    visit_at slots A n i (slice_get slots i) stack decisions closed (visits slots A closed n) heed.0 heed.1 refl p q

pub visits_are_reached : VisitsAreReached
visits_are_reached slots A closed decisions n heed =
    visits slots A closed n (pos 0) [] decisions heed (leads_ready slots A (pos 0) unknown closed.first) tt

-- where nothing is known each decision heeds it
nothing_heeded : (z : Option Bool) (decisions : List Bool) → z ≡ None → HeedsOne z decisions
nothing_heeded None decisions h = tt
nothing_heeded (Some d) decisions h = cc

heeds_at : (slots : List bpf_insn) (A : Assignment) (place : ℤ) (x : Option bpf_insn) (decisions : List Bool) → DecidesNothing slots A → slot_at_integer slots place ≡ x → HeedsAt A place x decisions
heeds_at slots A (negsuc i) x decisions nothing there = tt
heeds_at slots A (pos i) None decisions nothing there = tt
heeds_at slots A (pos i) (Some slot) decisions nothing there =
    nothing_heeded (known_way (state_at A i) slot (flow slot)) decisions (nothing i slot there)

turn_heeds : (rest : State ℤ → Type 0) → ((s : State ℤ) → rest s) → (t : StepResult ℤ) → HeedsTurn rest t
turn_heeds rest h (Goes s) = h s
turn_heeds rest h Ends = tt
turn_heeds rest h Waits = tt
turn_heeds rest h Leaves = tt

heeds : (slots : List bpf_insn) (A : Assignment) → DecidesNothing slots A → (n : ℕ) (s : State ℤ) → Heeds slots A n s
heeds slots A nothing zero s = tt
heeds slots A nothing (suc n) s =
    (heeds_at slots A s.place (slot_at_integer slots s.place) s.decisions nothing refl, turn_heeds (Heeds slots A n) (heeds slots A nothing n) (step_at (flat_code slots) s (slot_at_integer slots s.place)))

pub all_visits_are_reached : AllVisitsAreReached
all_visits_are_reached slots A closed nothing decisions n =
    visits_are_reached slots A closed decisions n (heeds slots A nothing n (begin (pos 0) decisions))
