-- The linked program visits the slots that the separate functions visit.
use Rattle.std.proofs.Common.{◌≡◌, ◌≢◌, ℕ, zero, suc, ◌+◌, ◌-◌, ◌<◌, ◌≤◌, ◌⊎◌, Bool, true, false, cond, List, [], ◌∷◌, map, length, Option, Some, None, refl, sym, ap, ◌∙◌, subst, inl, inr, arith}
use Rattle.std.specs.Prelude.{ℤ, pos, negsuc, ◌+ℤ◌, ◌==◌, slice_get}
use Rattle.std.proofs.lemmas.Int.{ints}
use Rattle.std.proofs.lemmas.Bool.{lt-ltb, le-ltb}
use Rattle.std.proofs.lemmas.Option.{slice_get_within}
use Rattle.ebpf_linker.specs.Functions.{Flow, Return, PseudoCall, WideLoad, Jump, Branch, Next, flow, slot_at_integer, is_branch, relinked, SlotReference, Nothing, Faulty, Names, Functions, body, Among, BeginsAt, Becomes, Linked, References, FunctionContent, Walk}
use Rattle.ebpf_linker.specs.Machine.{State, StepResult, Goes, Ends, Waits, Leaves, Left, Run, pops, enters, decides, follow, step_at, after_step, run_steps, begin, referred_key, reference_at, start_of, separate, flat_code, name_from, name, SameVisits, OnCallsOrLoads, Ended, Waiting}
use Rattle.ebpf_linker.specs.Order.{Before}
use Rattle.ebpf_parts.specs.Slots.{is_pseudo_call}
use Rattle.ebpf_parts.specs.declared.insn.bpf_insn.{bpf_insn}

-- a call stays a call
still_calls : (s : bpf_insn) (d : ℤ) → is_pseudo_call s ≡ true → is_pseudo_call (relinked s d) ≡ true
still_calls s d e = rw e e

-- a slot that is linked does to control what it did before, but for the place that a call goes to
same_flow : (s : bpf_insn) (d : ℤ) → (is_pseudo_call s ≡ true) ⊎ (s.code ≡ 0x18) → flow (relinked s d) ≡ flow s
unfolding flow
same_flow s d (inl e) = rw (still_calls s d e, e) refl
same_flow s d (inr e) = rw e refl

enter_from : (a b c d e f : Bool) (x y z : ℤ) → cond a Return (cond b PseudoCall (cond c WideLoad (cond d (Jump x) (cond e (Jump y) (cond f (Branch z) Next))))) ≡ PseudoCall → b ≡ true
enter_from a true c d e f x y z h = refl
enter_from true false c d e f x y z h = cc
enter_from false false true d e f x y z h = cc
enter_from false false false true e f x y z h = cc
enter_from false false false false true f x y z h = cc
enter_from false false false false false true x y z h = cc
enter_from false false false false false false x y z h = cc

-- control enters a function at pseudo calls alone
flow_calls : (s : bpf_insn) → flow s ≡ PseudoCall → is_pseudo_call s ≡ true
unfolding flow
flow_calls s e = enter_from (s.code == 0x95) (is_pseudo_call s) (s.code == 0x18) (s.code == 0x05) (s.code == 0x06) (is_branch s.code) s.off s.imm s.off e

-- each pseudo call is a reference
abbrev pub CallsRefer : {K E : Type 0} → Functions K E → Type 0
CallsRefer {K = K} F = (k : K) (i : ℕ) (s : bpf_insn) → slice_get (body F k) i ≡ Some s → is_pseudo_call s ≡ true → F.reference k i ≢ Nothing

module _ {K E : Type 0} (F : Functions K E) where
  pub begins_among : (ks : List K) (k : K) (b : ℕ) → BeginsAt F ks k b → Among ks k
  begins_among [] k b h = absurd h
  begins_among (m ∷ ks) k b (inl h) = inl h.0
  begins_among (m ∷ ks) k b (inr h) = inr (begins_among ks k h.0 h.2)

  -- the name of a place inside a copy
  pub named_at : (ks : List K) (k : K) (b i : ℕ) → BeginsAt F ks k b → i < length (body F k) → name_from F ks (b + i) ≡ Some (k, pos i)
  named_at [] k b i h lt = absurd h
  named_at (m ∷ ks) k b i (inl h) lt =
      let same : b + i ≡ i = omega (arith, h.1) in
      let below : i < length (body F m) = subst (λ (x : K). i < length (body F x)) (sym h.0) lt in
      rw (same, lt-ltb i (length (body F m)) below) (ap (λ (x : K). Some (x, pos i)) h.0)
  named_at (m ∷ ks) k b i (inr (c, e, h)) lt =
      let past : length (body F m) ≤ b + i = omega arith in
      let rest : b + i - length (body F m) ≡ c + i = omega arith in
      rw (le-ltb (b + i) (length (body F m)) past, rest) (named_at ks k c i h lt)

module _ {K E : Type 0} (F : Functions K E) (p : K) (ks : List K) (out : List bpf_insn) where
  -- a place of the linked program stands for a slot of a function
  abbrev pub Stands : K × ℤ → ℤ → Type 0
  Stands x y = (b : ℕ) × BeginsAt F (p ∷ ks) x.0 b × (y ≡ pos b +ℤ x.1)

  abbrev pub AllStand : List (K × ℤ) → List ℤ → Type 0
  AllStand [] [] = Unit {0}
  AllStand (x ∷ xs) (y ∷ ys) = Stands x y × AllStand xs ys
  AllStand [] (y ∷ ys) = ⊥
  AllStand (x ∷ xs) [] = ⊥

  pub record Alike (s : State (K × ℤ)) (t : State ℤ) : Type 0 where
    pub place : Stands s.place t.place
    pub stack : AllStand s.stack t.stack
    pub decisions : t.decisions ≡ s.decisions

  abbrev pub StepsAlike : StepResult (K × ℤ) → StepResult ℤ → Type 0
  StepsAlike (Goes s) (Goes t) = Alike s t
  StepsAlike Ends Ends = Unit {0}
  StepsAlike Waits Waits = Unit {0}
  StepsAlike Leaves t = Unit {0}
  StepsAlike (Goes s) Ends = ⊥
  StepsAlike (Goes s) Waits = ⊥
  StepsAlike (Goes s) Leaves = ⊥
  StepsAlike Ends (Goes t) = ⊥
  StepsAlike Ends Waits = ⊥
  StepsAlike Ends Leaves = ⊥
  StepsAlike Waits (Goes t) = ⊥
  StepsAlike Waits Ends = ⊥
  StepsAlike Waits Leaves = ⊥

  pub stands_moved : (x : K × ℤ) (y d : ℤ) → Stands x y → Stands (x.0, x.1 +ℤ d) (y +ℤ d)
  stands_moved x y d (b, h, e) = (b, h, omega (arith, ints))

  pops_alike : (ds es : List Bool) (xs : List (K × ℤ)) (ys : List ℤ) → es ≡ ds → AllStand xs ys → StepsAlike (pops ds xs) (pops es ys)
  pops_alike ds es [] [] e h = tt
  pops_alike ds es (x ∷ xs) (y ∷ ys) e h = record { place = h.0; stack = h.1; decisions = e }
  pops_alike ds es [] (y ∷ ys) e h = absurd h
  pops_alike ds es (x ∷ xs) [] e h = absurd h

  decides_alike : (x x' : K × ℤ) (y y' : ℤ) (xs : List (K × ℤ)) (ys : List ℤ) (ds es : List Bool) → es ≡ ds → Stands x y → Stands x' y' → AllStand xs ys → StepsAlike (decides x x' xs ds) (decides y y' ys es)
  decides_alike x x' y y' xs ys [] [] e h h' all = tt
  decides_alike x x' y y' xs ys (true ∷ ds) (true ∷ es) e h h' all = record { place = h; stack = all; decisions = cc }
  decides_alike x x' y y' xs ys (false ∷ ds) (false ∷ es) e h h' all = record { place = h'; stack = all; decisions = cc }
  decides_alike x x' y y' xs ys (true ∷ ds) (false ∷ es) e h h' all = cc
  decides_alike x x' y y' xs ys (false ∷ ds) (true ∷ es) e h h' all = cc
  decides_alike x x' y y' xs ys [] (f ∷ es) e h h' all = cc
  decides_alike x x' y y' xs ys (d ∷ ds) [] e h h' all = cc

  -- what is known of a slot and of its linked slot, at a place
  pub record Fits (x : K × ℤ) (y : ℤ) (s t : bpf_insn) : Type 0 where
    pub flow_is : flow t ≡ flow s
    pub enters_at : flow s ≡ PseudoCall → (m : K) × (c : ℕ) × (start_of (referred_key (reference_at F x.0 x.1)) ≡ Some (m, pos 0)) × BeginsAt F (p ∷ ks) m c × ((y +ℤ pos 1) +ℤ t.imm ≡ pos c)

  enters_alike : (x x' : K × ℤ) (y y' : ℤ) (o : Option (K × ℤ)) (xs : List (K × ℤ)) (ys : List ℤ) (ds es : List Bool) → es ≡ ds → Stands x y → AllStand xs ys → o ≡ Some x' → Stands x' y' → StepsAlike (enters x xs ds o) (enters y ys es (Some y'))
  enters_alike x x' y y' o xs ys ds es e h all is h' =
      subst (λ (u : Option (K × ℤ)). StepsAlike (enters x xs ds u) (enters y ys es (Some y'))) (sym is) (record { place = h'; stack = (h, all); decisions = e })

  pub follow_alike : (s : State (K × ℤ)) (t : State ℤ) (i j : bpf_insn) (f : Flow) → Alike s t → flow i ≡ f → Fits s.place t.place i j → StepsAlike (follow (separate F) s i f) (follow (flat_code out) t j f)
  follow_alike s t i j Return a e fits = pops_alike s.decisions t.decisions s.stack t.stack a.decisions a.stack
  follow_alike s t i j PseudoCall a e fits =
      let (m, c, is, h, to) = fits.enters_at e in
      enters_alike _ (m, pos 0) _ _ _ s.stack t.stack s.decisions t.decisions a.decisions (stands_moved s.place t.place (pos 1) a.place) a.stack is (c, h, to ∙ ap pos (let z : c ≡ c + 0 = omega arith in z))
  follow_alike s t i j WideLoad a e fits = record { place = stands_moved s.place t.place (pos 2) a.place; stack = a.stack; decisions = a.decisions }
  follow_alike s t i j (Jump d) a e fits = record { place = stands_moved _ _ d (stands_moved s.place t.place (pos 1) a.place); stack = a.stack; decisions = a.decisions }
  follow_alike s t i j (Branch d) a e fits =
      let one = stands_moved s.place t.place (pos 1) a.place in
      decides_alike _ _ _ _ s.stack t.stack s.decisions t.decisions a.decisions (stands_moved _ _ d one) one a.stack
  follow_alike s t i j Next a e fits = record { place = stands_moved s.place t.place (pos 1) a.place; stack = a.stack; decisions = a.decisions }

  -- where a slot's reference names a function of the list
  becomes_fits : (linked : Linked F p ks out) (k : K) (b i : ℕ) (s t : bpf_insn) (r : SlotReference K E) → F.reference k i ≡ r → Becomes F p ks (b + i) r s t → (r ≢ Nothing → (is_pseudo_call s ≡ true) ⊎ (s.code ≡ 0x18)) → (is_pseudo_call s ≡ true → r ≢ Nothing) → Fits (k, pos i) (pos (b + i)) s t
  becomes_fits linked k b i s t Nothing e h on refer = record { flow_is = ap flow h; enters_at = λ f. absurd (refer (flow_calls s f) refl) }
  becomes_fits linked k b i s t (Faulty x) e h on refer = absurd h
  becomes_fits linked k b i s t (Names m) e (c, begins, is) on refer =
      record {
        flow_is = ap flow is ∙ same_flow s _ (on (λ x. cc));
        enters_at = λ f. (m, length (body F p) + c, ap (λ (r : SlotReference K E). start_of (referred_key r)) e, inr (c, refl, begins), ap (λ (u : bpf_insn). pos (b + i + 1) +ℤ u.imm) is ∙ omega (arith, ints));
      }

  pub fits_at : Linked F p ks out → CallsRefer F → OnCallsOrLoads F (p ∷ ks) → (x : K × ℤ) (y : ℤ) (s : bpf_insn) → Stands x y → slot_at_integer (body F x.0) x.1 ≡ Some s → (t : bpf_insn) × (slot_at_integer out y ≡ Some t) × Fits x y s t × (name F (p ∷ ks) y ≡ Some x)
  fits_at linked refer on (k, negsuc i) y s h e = cc
  fits_at linked refer on (k, pos i) y s (b, h, is) e =
      let g = linked.slots k b i s h e in
      let f = becomes_fits linked k b i s g.0 (F.reference k i) refl g.2 (on k i s (begins_among F (p ∷ ks) k b h) e) (refer k i s e) in
      let n = named_at F (p ∷ ks) k b i h (slice_get_within (body F k) i s e) in
      (g.0, ap (slot_at_integer out) is ∙ g.1, subst (λ (w : ℤ). Fits (k, pos i) w s g.0) (sym is) f, ap (name F (p ∷ ks)) is ∙ n)

  -- what two runs have in common, unless the first one has left its function
  abbrev RunsAlike : Run (K × ℤ) → Run ℤ → Type 0
  RunsAlike r q = r.stop ≢ Left → (map (name F (p ∷ ks)) q.visited ≡ map Some r.visited) × (q.stop ≡ r.stop)

  after_alike : (x : K × ℤ) (y : ℤ) (f : State (K × ℤ) → Run (K × ℤ)) (g : State ℤ → Run ℤ) (u : StepResult (K × ℤ)) (v : StepResult ℤ) → name F (p ∷ ks) y ≡ Some x → StepsAlike u v → ((s : State (K × ℤ)) (t : State ℤ) → Alike s t → RunsAlike (f s) (g t)) → RunsAlike (after_step f x u) (after_step g y v)
  after_alike x y f g (Goes s) (Goes t) n h rest stays = let r = rest s t h stays in (rw (n, r.0) refl, r.1)
  after_alike x y f g Ends Ends n h rest stays = (rw n refl, refl)
  after_alike x y f g Waits Waits n h rest stays = (rw n refl, refl)
  after_alike x y f g Leaves v n h rest stays = absurd (stays refl)
  after_alike x y f g (Goes s) Ends n h rest stays = absurd h
  after_alike x y f g (Goes s) Waits n h rest stays = absurd h
  after_alike x y f g (Goes s) Leaves n h rest stays = absurd h
  after_alike x y f g Ends (Goes t) n h rest stays = absurd h
  after_alike x y f g Ends Waits n h rest stays = absurd h
  after_alike x y f g Ends Leaves n h rest stays = absurd h
  after_alike x y f g Waits (Goes t) n h rest stays = absurd h
  after_alike x y f g Waits Ends n h rest stays = absurd h
  after_alike x y f g Waits Leaves n h rest stays = absurd h

  step_alike : Linked F p ks out → CallsRefer F → OnCallsOrLoads F (p ∷ ks) → (n : ℕ) → ((s : State (K × ℤ)) (t : State ℤ) → Alike s t → RunsAlike (run_steps (separate F) n s) (run_steps (flat_code out) n t)) → (s : State (K × ℤ)) (t : State ℤ) → Alike s t → (o : Option bpf_insn) → slot_at_integer (body F s.place.0) s.place.1 ≡ o → RunsAlike (after_step (run_steps (separate F) n) s.place (step_at (separate F) s o)) (after_step (run_steps (flat_code out) n) t.place (step_at (flat_code out) t (slot_at_integer out t.place)))
  step_alike linked refer on n rest s t a None e stays = absurd (stays refl)
  step_alike linked refer on n rest s t a (Some i) e stays =
      let g = fits_at linked refer on s.place t.place i a.place e in
      let turns : StepsAlike (follow (separate F) s i (flow i)) (follow (flat_code out) t g.0 (flow g.0)) = rw g.2.flow_is (follow_alike s t i g.0 (flow i) a refl g.2) in
      rw g.1 (after_alike s.place t.place _ _ _ _ g.3 turns rest stays)

  runs_alike : Linked F p ks out → CallsRefer F → OnCallsOrLoads F (p ∷ ks) → (n : ℕ) (s : State (K × ℤ)) (t : State ℤ) → Alike s t → RunsAlike (run_steps (separate F) n s) (run_steps (flat_code out) n t)
  runs_alike linked refer on zero s t a stays = (refl, refl)
  runs_alike linked refer on (suc n) s t a stays = step_alike linked refer on n (runs_alike linked refer on n) s t a (slot_at_integer (body F s.place.0) s.place.1) refl stays

  pub same_visits : Linked F p ks out → CallsRefer F → OnCallsOrLoads F (p ∷ ks) → SameVisits F p ks out
  same_visits linked refer on ds n = runs_alike linked refer on n (begin (p, pos 0) ds) (begin (pos 0) ds) (record { place = (0, inl (refl, refl), refl); stack = tt; decisions = refl })

-- ---- what the machines visit in small programs

abbrev pub call : ℤ → bpf_insn
call d = record { code = 0x85; regs = 16; off = pos 0; imm = d }

abbrev pub exit : bpf_insn
exit = record { code = 0x95; regs = 0; off = pos 0; imm = pos 0 }

-- a jump over one slot, where a register is not 0
abbrev skip : bpf_insn
skip = record { code = 0x55; regs = 0; off = pos 1; imm = pos 0 }

abbrev pub plain : List bpf_insn → Option FunctionContent
plain slots = Some (record { slots = slots; func_info = []; line_info = [] })

abbrev pub of_slots : (ℕ → Option FunctionContent) → References ℕ ℕ → Functions ℕ ℕ
of_slots content refers = record { content = content; reference = refers; mismatch = λ k. k; too_long = λ k. k; stray_line = λ k. k }

-- a program that calls itself

abbrev itself : ℕ → Option FunctionContent
itself zero = plain (call (negsuc 0) ∷ exit ∷ [])
itself (suc n) = None

abbrev to_itself : References ℕ ℕ
to_itself zero zero = Names 0
to_itself zero (suc x) = Nothing
to_itself (suc n) x = Nothing

itself_flat : (run_steps (flat_code (call (pos 1) ∷ exit ∷ call (negsuc 0) ∷ exit ∷ [])) 5 (begin (pos 0) [])).visited ≡ pos 0 ∷ pos 2 ∷ pos 2 ∷ pos 2 ∷ pos 2 ∷ []
unfolding flow
itself_flat = refl

itself_names : map (name (of_slots itself to_itself) (0 ∷ 0 ∷ [])) (pos 0 ∷ pos 2 ∷ pos 2 ∷ []) ≡ map Some ((0, pos 0) ∷ (0, pos 0) ∷ (0, pos 0) ∷ [])
itself_names = refl

itself_separate : (run_steps (separate (of_slots itself to_itself)) 3 (begin (0, pos 0) [])).visited ≡ (0, pos 0) ∷ (0, pos 0) ∷ (0, pos 0) ∷ []
unfolding flow
itself_separate = refl

-- P calls f and g, f calls g

abbrev pub three : ℕ → Option FunctionContent
three zero = plain (call (negsuc 0) ∷ call (negsuc 0) ∷ exit ∷ [])
three (suc zero) = plain (call (negsuc 0) ∷ exit ∷ [])
three (suc (suc n)) = plain (exit ∷ [])

abbrev pub in_turn : References ℕ ℕ
in_turn zero zero = Names 1
in_turn zero (suc zero) = Names 2
in_turn zero (suc (suc n)) = Nothing
in_turn (suc zero) zero = Names 2
in_turn (suc zero) (suc n) = Nothing
in_turn (suc (suc m)) n = Nothing

three_separate : (run_steps (separate (of_slots three in_turn)) 20 (begin (0, pos 0) [])).visited ≡ (0, pos 0) ∷ (1, pos 0) ∷ (2, pos 0) ∷ (1, pos 1) ∷ (0, pos 1) ∷ (2, pos 0) ∷ (0, pos 2) ∷ []
unfolding flow
three_separate = refl

three_ends : (run_steps (separate (of_slots three in_turn)) 20 (begin (0, pos 0) [])).stop ≡ Ended
unfolding flow
three_ends = refl

abbrev pub three_linked : List bpf_insn
three_linked = call (pos 2) ∷ call (pos 3) ∷ exit ∷ call (pos 1) ∷ exit ∷ exit ∷ []

three_flat : (run_steps (flat_code three_linked) 20 (begin (pos 0) [])).visited ≡ pos 0 ∷ pos 3 ∷ pos 5 ∷ pos 4 ∷ pos 1 ∷ pos 5 ∷ pos 2 ∷ []
unfolding flow
three_flat = refl

three_names : map (name (of_slots three in_turn) (0 ∷ 1 ∷ 2 ∷ [])) (pos 0 ∷ pos 3 ∷ pos 5 ∷ pos 4 ∷ pos 1 ∷ pos 5 ∷ pos 2 ∷ []) ≡ map Some ((0, pos 0) ∷ (1, pos 0) ∷ (2, pos 0) ∷ (1, pos 1) ∷ (0, pos 1) ∷ (2, pos 0) ∷ (0, pos 2) ∷ [])
three_names = refl

-- two paths lead to g: the one through f is its key path

g_through_f : Walk in_turn 0 (0 ∷ 0 ∷ []) (1 ∷ 2 ∷ [])
g_through_f = (refl, (refl, tt))

g_from_p : Walk in_turn 0 (1 ∷ []) (2 ∷ [])
g_from_p = (refl, tt)

through_f_first : Before (0 ∷ 0 ∷ []) (1 ∷ [])
through_f_first = inl (omega arith)

-- a branch over a call

abbrev branches : List bpf_insn
branches = skip ∷ call (pos 1) ∷ exit ∷ exit ∷ []

branch_taken : (run_steps (flat_code branches) 20 (begin (pos 0) (true ∷ []))).visited ≡ pos 0 ∷ pos 2 ∷ []
unfolding flow
branch_taken = refl

branch_passed : (run_steps (flat_code branches) 20 (begin (pos 0) (false ∷ []))).visited ≡ pos 0 ∷ pos 1 ∷ pos 3 ∷ pos 2 ∷ []
unfolding flow
branch_passed = refl

branch_waits : (run_steps (flat_code branches) 20 (begin (pos 0) [])).visited ≡ pos 0 ∷ []
unfolding flow
branch_waits = refl

branch_stops : (run_steps (flat_code branches) 20 (begin (pos 0) [])).stop ≡ Waiting
unfolding flow
branch_stops = refl
