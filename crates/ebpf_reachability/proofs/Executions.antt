-- Each step of the concrete machine is a step that the analysis takes, to registers that agree.
use Rattle.std.proofs.Common.{◌≡◌, ◌≢◌, ℕ, zero, suc, ◌+◌, ◌*◌, ◌/◌, ◌%◌, ◌^◌, ◌<◌, ◌⊎◌, Bool, true, false, cond, List, [], ◌∷◌, ◌++◌, length, Option, Some, None, refl, sym, ap, ◌∙◌, subst, inl, inr, arith, ℤ, pos, eq-eqb}
use Rattle.std.specs.Prelude.{◌==◌, IfSome, slice_get}
use Rattle.std.specs.Option.{option_map}
use Rattle.std.specs.Int.{w32, cast_unsigned}
use Rattle.std.specs.Int.RustNames.{FitsSigned}
use Rattle.std.proofs.lemmas.Bool.Decides.{eqb_tells}
use Rattle.std.proofs.lemmas.Option.{slice_get_within}
use Rattle.ebpf_parts.specs.declared.insn.bpf_insn.{bpf_insn}
use Rattle.ebpf_parts.specs.Slots.{dst_of, src_of, is_poisoned, is_pseudo_call}
use Rattle.ebpf_linker.specs.Functions.{Among, Flow, PseudoCall, WideLoad, Jump, Branch, Next, flow}
use Rattle.ebpf_reachability.specs.ConcreteMachine.{Agrees, AreSlots, Branches, Calculates, Calls, CallsFunction, Executes, ExecutionsAgree, ExecutionsAreReached, Frame, IsTarget, IsWay, Jumps, JumpsAnywhere, KeepsAllBut, Loads, LoadsConstant, LoadsPacket, MachineState, Poisoned, Proceeds, Returns, RunsCallback, Starts, Step, Stores, StoresAtomically, caller_saved, condition, frame_of, no_jumps, result, wide_constant}
use Rattle.ebpf_reachability.specs.Effects.{after, arithmetic, called, class, decided, forgotten, learned, stored, unknown, wide, wide_load_result}
use Rattle.ebpf_reachability.specs.MachineNumbers.{wrapped}
use Rattle.ebpf_reachability.specs.Reached.{Assignment, Holds, IsClosed, IsStateBelow, state_at}
use Rattle.ebpf_reachability.specs.Steps.{callback, first_slots, jumps_anywhere, next_index, steps, steps_at, steps_by_flow, steps_to, target_index, ways}
use Rattle.ebpf_reachability.specs.declared.registers.Registers.{Registers}
use Rattle.ebpf_reachability.specs.declared.steps.SlotState.{SlotState}
use Rattle.ebpf_reachability.proofs.Agreement.{AgreesBut, all_agree, called_agrees, condition_known, forgot, kept_agrees, learned_agrees, result_known, says, unknown_agrees}
use Rattle.ebpf_reachability.proofs.Flows.{branch, call_code, call_codes, differ, flow_branch, flow_enter, flow_jump, flow_long_jump, flow_next, flow_wide, no_call, no_wide, plain, poison_code, unpoisoned}
use Rattle.ebpf_reachability.proofs.Lawful.{told_at}
use Rattle.ebpf_reachability.proofs.MachineNumbers.{wrapped_cast}
use Rattle.ebpf_reachability.proofs.Monotone.{holds_first, holds_second, leads_held}

-- ---- the registers behind a slot

-- the table of `after`, by what its tests say
abbrev by_class : Bool → ℕ → bpf_insn → Registers → Registers
by_class t c slot a =
    cond t unknown
    (cond (c == 0) (called (forgotten a (dst_of slot)))
    (cond (c == 1) (forgotten a (dst_of slot))
    (cond (c == 2) a
    (cond (c == 3) (stored slot a)
    (cond (c == 4) (learned a (dst_of slot) (arithmetic slot a))
    (cond (c == 7) (learned a (dst_of slot) (arithmetic slot a)) (called a)))))))

after_by : (slot : bpf_insn) (a : Registers) (t : Bool) (c : ℕ) → is_poisoned slot ≡ t → slot.code % 8 ≡ c → after slot a ≡ by_class t c slot a
after_by slot a t c p q =
    ap (λ (u : Bool). by_class u (class slot) slot a) p ∙ ap (λ (v : ℕ). by_class t v slot a) q

-- ---- constants

wide_second : (t : Bool) (slot : bpf_insn) (z : Option bpf_insn) → FitsSigned w32 slot.imm → ((second : bpf_insn) → z ≡ Some second → FitsSigned w32 second.imm) → cond t (option_map (λ (second : bpf_insn). wrapped w32 slot.imm + 2 ^ 32 * wrapped w32 second.imm) z) None ≡ cond t (option_map (wide slot) z) None
wide_second false slot z p q = refl
wide_second true slot None p q = refl
wide_second true slot (Some second) p q =
    let first = wrapped_cast w32 slot.imm (let h = p.sfits in omega arith) in
    let rest = wrapped_cast w32 second.imm (let h = (q second refl).sfits in omega arith) in
    ap (λ (u : ℕ). Some (u + 2 ^ 32 * wrapped w32 second.imm)) first ∙ ap (λ (v : ℕ). Some (cast_unsigned w32 slot.imm + 2 ^ 32 * v)) rest

wide_same : (slots : List bpf_insn) (i : ℕ) (slot : bpf_insn) → AreSlots slots → FitsSigned w32 slot.imm → wide_constant slots i slot ≡ wide_load_result slots i slot
wide_same slots i slot all fits = wide_second (src_of slot == 0) slot (slice_get slots (i + 1)) fits (all (i + 1))

-- ---- places that a closed assignment reaches, with registers that agree

abbrev Reaches : List bpf_insn → Assignment → ℕ → (ℕ → ℕ) → Type 0
Reaches slots A place registers =
    place < length slots → (b : Registers) × (state_at A place ≡ Some b) × Agrees b registers

above_agrees : (A : Assignment) (place : ℕ) (a : Registers) (registers : ℕ → ℕ) (z : Option Registers) → state_at A place ≡ z → Agrees a registers → IsStateBelow (Some a) z → (b : Registers) × (state_at A place ≡ Some b) × Agrees b registers
above_agrees A place a registers None is p q = absurd q
above_agrees A place a registers (Some b) is p q = (b, is, λ r n h. p r n (q.numbers r n h))

reaches : (slots : List bpf_insn) (A : Assignment) (place : ℕ) (a : Registers) (registers : ℕ → ℕ) → Agrees a registers → Holds A (steps_to slots (pos place) a) → Reaches slots A place registers
reaches slots A place a registers p h within =
    above_agrees A place a registers (state_at A place) refl p (leads_held slots A place a within h)

reaches_at : (slots : List bpf_insn) (A : Assignment) (place : ℕ) (z : ℤ) (a : Registers) (registers : ℕ → ℕ) → pos place ≡ z → Agrees a registers → Holds A (steps_to slots z a) → Reaches slots A place registers
reaches_at slots A place z a registers is p h =
    reaches slots A place a registers p (subst (λ (u : ℤ). Holds A (steps_to slots u a)) (sym is) h)

reaches_behind : (slots : List bpf_insn) (A : Assignment) (place i : ℕ) (a : Registers) (registers : ℕ → ℕ) → place ≡ i → Agrees a registers → Holds A (steps_to slots (pos i) a) → Reaches slots A place registers
reaches_behind slots A place i a registers is p h = reaches_at slots A place (pos i) a registers (ap pos is) p h

-- what is held at a slot, by its flow
held_by : (slots : List bpf_insn) (A : Assignment) (i : ℕ) (slot : bpf_insn) (b : Registers) (f : Flow) → slice_get slots i ≡ Some slot → flow slot ≡ f → Holds A (steps slots i b) → Holds A (steps_by_flow slots i slot b f)
held_by slots A i slot b f there is h =
    subst (λ (g : Flow). Holds A (steps_by_flow slots i slot b g)) is (subst (λ (x : Option bpf_insn). Holds A (steps_at slots i b x)) there (holds_first A (steps_at slots i b (slice_get slots i)) (jumps_anywhere slots (slice_get slots i)) h))

-- a slot that goes on to the next one
goes_on : (slots : List bpf_insn) (A : Assignment) (i place : ℕ) (slot : bpf_insn) (b c : Registers) (registers : ℕ → ℕ) → slice_get slots i ≡ Some slot → Holds A (steps slots i b) → flow slot ≡ Next → after slot b ≡ c → Agrees c registers → place ≡ i + 1 → Reaches slots A place registers
goes_on slots A i place slot b c registers there h is same p to =
    reaches_behind slots A place (i + 1) c registers to p (subst (λ (u : Registers). Holds A (steps_to slots (pos (i + 1)) u)) same (held_by slots A i slot b Next there is h))

first_held : (A : Assignment) (n k : ℕ) → k < n → Holds A (first_slots n) → IsStateBelow (Some unknown) (state_at A k)
first_held A zero k below h = absurd (omega arith)
first_held A (suc n) k below h =
    let last = holds_second A (first_slots n) (record { place = n; registers = unknown } ∷ []) h in
    elim (eqb_tells k n) [
      | inl same ↦ subst (λ (u : ℕ). IsStateBelow (Some unknown) (state_at A u)) (sym same.1) last.0
      | inr apart ↦ first_held A n k (let e = apart.1 in omega arith) (holds_first A (first_slots n) (record { place = n; registers = unknown } ∷ []) h)
    ]

-- the way that is taken is held
way_held : (A : Assignment) (z : Option Bool) (taken : Bool) (here there : List SlotState) → ((d : Bool) → z ≡ Some d → taken ≡ d) → Holds A (ways z here there) → Holds A (cond taken there here)
way_held A None true here there f h = holds_second A here there h
way_held A None false here there f h = holds_first A here there h
way_held A (Some true) true here there f h = h
way_held A (Some false) false here there f h = h
way_held A (Some true) false here there f h = absurd (let e = f true refl in cc)
way_held A (Some false) true here there f h = absurd (let e = f false refl in cc)

way_reached : (slots : List bpf_insn) (A : Assignment) (i place : ℕ) (by : ℤ) (taken : Bool) (b : Registers) (registers : ℕ → ℕ) → Agrees b registers → IsWay taken i by place → Holds A (cond taken (steps_to slots (target_index i by) b) (steps_to slots (next_index i) b)) → Reaches slots A place registers
way_reached slots A i place by true b registers p to h = reaches_at slots A place (target_index i by) b registers to p h
way_reached slots A i place by false b registers p to h = reaches_behind slots A place (i + 1) b registers to p h

-- ---- what an execution keeps

-- a caller's slot is reached, whatever its call leaves in the registers that it may change
abbrev FrameKept : List bpf_insn → Assignment → Frame → Type 0
FrameKept slots A frame =
    (registers : ℕ → ℕ) → KeepsAllBut caller_saved frame.registers registers → Reaches slots A frame.place registers

abbrev FramesKept : List bpf_insn → Assignment → List Frame → Type 0
FramesKept slots A [] = Unit {0}
FramesKept slots A (frame ∷ frames) = FrameKept slots A frame × FramesKept slots A frames

record Kept (slots : List bpf_insn) (A : Assignment) (s : MachineState) : Type 0 where
  reached : Reaches slots A s.place s.registers
  frames : FramesKept slots A s.stack

same_frames : (slots : List bpf_insn) (A : Assignment) (before behind : List Frame) → behind ≡ before → FramesKept slots A before → FramesKept slots A behind
same_frames slots A before behind e h = subst (λ (fs : List Frame). FramesKept slots A fs) (sym e) h

-- What is known at a step: the slot, what the analysis knows there, and what it holds.
record At (slots : List bpf_insn) (A : Assignment) (slot : bpf_insn) (s : MachineState) (b : Registers) : Type 0 where
  all : AreSlots slots
  there : slice_get slots s.place ≡ Some slot
  agrees : Agrees b s.registers
  held : Holds A (steps slots s.place b)

width_bit : (t : Bool) (c : ℕ) → c ≡ cond t 4 7 → (c == 4) ≡ t
width_bit true c h = eq-eqb c 4 h
width_bit false c h = differ c 4 (λ (e : c ≡ 4). absurd (omega arith))

jump_bit : (t : Bool) (c : ℕ) → c ≡ cond t 6 5 → (c == 6) ≡ t
jump_bit true c h = eq-eqb c 6 h
jump_bit false c h = differ c 6 (λ (e : c ≡ 6). absurd (omega arith))

jump_class : (t : Bool) (c : ℕ) → c ≡ cond t 6 5 → (c ≡ 5) ⊎ (c ≡ 6)
jump_class true c h = inr h
jump_class false c h = inl h

module _ (slots : List bpf_insn) (A : Assignment) (slot : bpf_insn) (s t : MachineState) (b : Registers) (known_here : At slots A slot s b) where
  fits : FitsSigned w32 slot.imm
  fits = known_here.all s.place slot known_here.there

  but : (rs : List ℕ) → KeepsAllBut rs s.registers t.registers → AgreesBut rs b t.registers
  but rs k = kept_agrees rs b s.registers t.registers known_here.agrees k

  all_kept : KeepsAllBut [] s.registers t.registers → Agrees b t.registers
  all_kept k = all_agree b t.registers (but [] k)

  next : (c : Registers) → flow slot ≡ Next → after slot b ≡ c → Agrees c t.registers → t.place ≡ s.place + 1 → Reaches slots A t.place t.registers
  next c is same p to = goes_on slots A s.place t.place slot b c t.registers known_here.there known_here.held is same p to

  by_flow : (f : Flow) → flow slot ≡ f → Holds A (steps_by_flow slots s.place slot b f)
  by_flow f is = held_by slots A s.place slot b f known_here.there is known_here.held

  -- arithmetic
  result_there : (is_32 : Bool) → slot.code % 8 ≡ cond is_32 4 7 → IfSome (result is_32 slot s.registers) (λ n. t.registers (dst_of slot) ≡ n) → (n : ℕ) → arithmetic slot b ≡ Some n → t.registers (dst_of slot) ≡ n
  result_there is_32 c is n h =
      says (result is_32 slot s.registers) n (λ (m : ℕ). t.registers (dst_of slot) ≡ m)
      (subst (λ (u : Bool). result u slot s.registers ≡ Some n) (width_bit is_32 (slot.code % 8) c) (result_known slot b s.registers s.words fits known_here.agrees n h)) is

  calculates : (is_32 : Bool) → slot.code % 8 ≡ cond is_32 4 7 → IfSome (result is_32 slot s.registers) (λ n. t.registers (dst_of slot) ≡ n) → KeepsAllBut (dst_of slot ∷ []) s.registers t.registers → t.place ≡ s.place + 1 → Reaches slots A t.place t.registers
  calculates true c is k to =
      next (learned b (dst_of slot) (arithmetic slot b)) (plain slot 4 c (λ e. absurd (omega arith)) (λ e. absurd (omega arith)) (λ (h : slot.code ≡ 24). absurd (omega arith))) (after_by slot b false 4 (unpoisoned slot 4 c (λ e. absurd (omega arith))) c) (learned_agrees b (dst_of slot) (arithmetic slot b) t.registers (but (dst_of slot ∷ []) k) (result_there true c is)) to
  calculates false c is k to =
      next (learned b (dst_of slot) (arithmetic slot b)) (plain slot 7 c (λ e. absurd (omega arith)) (λ e. absurd (omega arith)) (λ (h : slot.code ≡ 24). absurd (omega arith))) (after_by slot b false 7 (unpoisoned slot 7 c (λ e. absurd (omega arith))) c) (learned_agrees b (dst_of slot) (arithmetic slot b) t.registers (but (dst_of slot ∷ []) k) (result_there false c is)) to

  -- wide loads
  wide_flow : slot.code ≡ 24 → flow slot ≡ WideLoad
  wide_flow c = flow_wide slot (λ (h : slot.code ≡ 149). absurd (omega arith)) (no_call slot (λ (h : slot.code ≡ 133). absurd (omega arith))) c

  wide_held : slot.code ≡ 24 → Holds A (steps_to slots (pos (s.place + 2)) (learned b (dst_of slot) (wide_load_result slots s.place slot)) ++ callback slots s.place slot)
  wide_held c = by_flow WideLoad (wide_flow c)

  loads_constant : slot.code ≡ 24 → IfSome (wide_constant slots s.place slot) (λ n. t.registers (dst_of slot) ≡ n) → KeepsAllBut (dst_of slot ∷ []) s.registers t.registers → t.place ≡ s.place + 2 → Reaches slots A t.place t.registers
  loads_constant c is k to =
      let value = wide_load_result slots s.place slot in
      let same = wide_same slots s.place slot known_here.all fits in
      reaches_behind slots A t.place (s.place + 2) (learned b (dst_of slot) value) t.registers to
      (learned_agrees b (dst_of slot) value t.registers (but (dst_of slot ∷ []) k) (λ n h. says (wide_constant slots s.place slot) n (λ (m : ℕ). t.registers (dst_of slot) ≡ m) (same ∙ h) is))
      (holds_first A (steps_to slots (pos (s.place + 2)) (learned b (dst_of slot) value)) (callback slots s.place slot) (wide_held c))

  runs_callback : slot.code ≡ 24 → src_of slot ≡ 4 → IsTarget s.place slot.imm t.place → Reaches slots A t.place t.registers
  runs_callback c four to =
      let value = wide_load_result slots s.place slot in
      let there = holds_second A (steps_to slots (pos (s.place + 2)) (learned b (dst_of slot) value)) (callback slots s.place slot) (wide_held c) in
      reaches_at slots A t.place (target_index s.place slot.imm) unknown t.registers to (unknown_agrees t.registers)
      (subst (λ (u : Bool). Holds A (cond u (steps_to slots (target_index s.place slot.imm) unknown) [])) (eq-eqb (src_of slot) 4 four) there)

  -- loads and stores
  loads_packet : slot.code % 8 ≡ 0 → slot.code ≢ 24 → KeepsAllBut (dst_of slot ∷ caller_saved) s.registers t.registers → t.place ≡ s.place + 1 → Reaches slots A t.place t.registers
  loads_packet c wide k to =
      next (called (forgotten b (dst_of slot))) (plain slot 0 c (λ e. absurd (omega arith)) (λ e. absurd (omega arith)) wide) (after_by slot b false 0 (unpoisoned slot 0 c (λ e. absurd (omega arith))) c) (called_agrees (forgotten b (dst_of slot)) t.registers (forgot (dst_of slot) caller_saved b t.registers (but (dst_of slot ∷ caller_saved) k))) to

  loads : slot.code % 8 ≡ 1 → KeepsAllBut (dst_of slot ∷ []) s.registers t.registers → t.place ≡ s.place + 1 → Reaches slots A t.place t.registers
  loads c k to =
      next (forgotten b (dst_of slot)) (plain slot 1 c (λ e. absurd (omega arith)) (λ e. absurd (omega arith)) (λ (h : slot.code ≡ 24). absurd (omega arith))) (after_by slot b false 1 (unpoisoned slot 1 c (λ e. absurd (omega arith))) c) (all_agree _ t.registers (forgot (dst_of slot) [] b t.registers (but (dst_of slot ∷ []) k))) to

  third_flow : slot.code % 8 ≡ 3 → flow slot ≡ Next
  third_flow c = plain slot 3 c (λ e. absurd (omega arith)) (λ e. absurd (omega arith)) (λ (h : slot.code ≡ 24). absurd (omega arith))

  after_store : (u : Bool) → slot.code % 8 ≡ 3 → (slot.code / 32 == 6) ≡ u → after slot b ≡ cond u (forgotten (forgotten (forgotten b (dst_of slot)) (src_of slot)) 0) b
  after_store u c e =
      after_by slot b false 3 (unpoisoned slot 3 c (λ h. absurd (omega arith))) c ∙ ap (λ (v : Bool). cond v (forgotten (forgotten (forgotten b (dst_of slot)) (src_of slot)) 0) b) e

  stores : (slot.code % 8 ≡ 2) ⊎ ((slot.code % 8 ≡ 3) × (slot.code / 32 ≢ 6)) → KeepsAllBut [] s.registers t.registers → t.place ≡ s.place + 1 → Reaches slots A t.place t.registers
  stores (inl c) k to =
      next b (plain slot 2 c (λ e. absurd (omega arith)) (λ e. absurd (omega arith)) (λ (h : slot.code ≡ 24). absurd (omega arith))) (after_by slot b false 2 (unpoisoned slot 2 c (λ e. absurd (omega arith))) c) (all_kept k) to
  stores (inr c) k to = next b (third_flow c.0) (after_store false c.0 (differ (slot.code / 32) 6 c.1)) (all_kept k) to

  stores_atomically : slot.code % 8 ≡ 3 → slot.code / 32 ≡ 6 → KeepsAllBut (dst_of slot ∷ src_of slot ∷ 0 ∷ []) s.registers t.registers → t.place ≡ s.place + 1 → Reaches slots A t.place t.registers
  stores_atomically c m k to =
      next (forgotten (forgotten (forgotten b (dst_of slot)) (src_of slot)) 0) (third_flow c) (after_store true c (eq-eqb (slot.code / 32) 6 m)) (all_agree _ t.registers (forgot 0 [] _ t.registers (forgot (src_of slot) (0 ∷ []) _ t.registers (forgot (dst_of slot) (src_of slot ∷ 0 ∷ []) b t.registers (but (dst_of slot ∷ src_of slot ∷ 0 ∷ []) k))))) to

  -- jumps
  jumps : ((slot.code ≡ 5) × IsTarget s.place slot.off t.place) ⊎ ((slot.code ≡ 6) × IsTarget s.place slot.imm t.place) → KeepsAllBut [] s.registers t.registers → Reaches slots A t.place t.registers
  jumps (inl c) k =
      let code = c.0 in
      reaches_at slots A t.place (target_index s.place slot.off) b t.registers c.1 (all_kept k) (by_flow (Jump slot.off) (flow_jump slot (λ (h : slot.code ≡ 149). absurd (omega arith)) (no_call slot (λ (h : slot.code ≡ 133). absurd (omega arith))) (λ (h : slot.code ≡ 24). absurd (omega arith)) code))
  jumps (inr c) k =
      let code = c.0 in
      reaches_at slots A t.place (target_index s.place slot.imm) b t.registers c.1 (all_kept k) (by_flow (Jump slot.imm) (flow_long_jump slot (λ (h : slot.code ≡ 149). absurd (omega arith)) (no_call slot (λ (h : slot.code ≡ 133). absurd (omega arith))) (λ (h : slot.code ≡ 24). absurd (omega arith)) (λ (h : slot.code ≡ 5). absurd (omega arith)) code))

  jumps_to_any : slot.code ≡ 13 → Reaches slots A t.place t.registers
  jumps_to_any c within =
      let anywhere : Holds A (jumps_anywhere slots (Some slot)) = subst (λ (x : Option bpf_insn). Holds A (jumps_anywhere slots x)) known_here.there (holds_second A (steps_at slots s.place b (slice_get slots s.place)) (jumps_anywhere slots (slice_get slots s.place)) known_here.held) in
      let firsts = subst (λ (u : Bool). Holds A (cond u (first_slots (length slots)) [])) (eq-eqb slot.code 13 c) anywhere in
      above_agrees A t.place unknown t.registers (state_at A t.place) refl (unknown_agrees t.registers) (first_held A (length slots) t.place within firsts)

  decision_taken : (is_32 taken : Bool) → slot.code % 8 ≡ cond is_32 6 5 → IfSome (condition is_32 slot s.registers) (λ d. taken ≡ d) → (d : Bool) → decided slot b ≡ Some d → taken ≡ d
  decision_taken is_32 taken c is d h =
      says (condition is_32 slot s.registers) d (λ (e : Bool). taken ≡ e)
      (subst (λ (u : Bool). condition u slot s.registers ≡ Some d) (jump_bit is_32 (slot.code % 8) c) (condition_known slot b s.registers s.words fits known_here.agrees d h)) is

  branches : (is_32 taken : Bool) → slot.code % 8 ≡ cond is_32 6 5 → slot.code / 16 ≢ 0 → slot.code / 16 ≢ 8 → slot.code / 16 ≢ 9 → IfSome (condition is_32 slot s.registers) (λ d. taken ≡ d) → IsWay taken s.place slot.off t.place → KeepsAllBut [] s.registers t.registers → Reaches slots A t.place t.registers
  branches is_32 taken c p q r is to k =
      let class_is = jump_class is_32 (slot.code % 8) c in
      let here = steps_to slots (next_index s.place) b in
      let there = steps_to slots (target_index s.place slot.off) b in
      let branch_flow = flow_branch slot (λ (h : slot.code ≡ 149). r (omega arith)) (no_call slot (λ (h : slot.code ≡ 133). q (omega arith))) (no_wide slot.code class_is) (λ (h : slot.code ≡ 5). p (omega arith)) (λ (h : slot.code ≡ 6). p (omega arith)) (branch slot.code class_is p q r) in
      way_reached slots A s.place t.place slot.off taken b t.registers (all_kept k) to (way_held A (decided slot b) taken here there (decision_taken is_32 taken c is) (by_flow (Branch slot.off) branch_flow))

  -- calls
  after_call : (slot.code % 8 ≡ 5) ⊎ (slot.code % 8 ≡ 6) → is_poisoned slot ≡ false → after slot b ≡ called b
  after_call (inl c) p = after_by slot b false 5 p c
  after_call (inr c) p = after_by slot b false 6 p c

  calls : (slot.code % 8 ≡ 5) ⊎ (slot.code % 8 ≡ 6) → (slot.code / 16 ≡ 8) ⊎ Among no_jumps slot.code → is_pseudo_call slot ≡ false → is_poisoned slot ≡ false → KeepsAllBut caller_saved s.registers t.registers → t.place ≡ s.place + 1 → Reaches slots A t.place t.registers
  calls c m local poison k to =
      let codes = call_codes slot.code c m in
      next (called b) (flow_next slot codes.exits local codes.wide codes.jumps codes.long codes.branches) (after_call c poison) (called_agrees b t.registers (but caller_saved k)) to

  poisoned : is_poisoned slot ≡ true → t.place ≡ s.place + 1 → Reaches slots A t.place t.registers
  poisoned p to =
      let code = poison_code slot p in
      let codes = call_codes slot.code (inl (let e = code.0 in omega arith)) (inl (let e = code.0 in omega arith)) in
      next unknown (flow_next slot codes.exits code.1 codes.wide codes.jumps codes.long codes.branches) (ap (λ (u : Bool). by_class u (class slot) slot b) p) (unknown_agrees t.registers) to

  function_flow : is_pseudo_call slot ≡ true → flow slot ≡ PseudoCall
  function_flow p = flow_enter slot (λ (h : slot.code ≡ 149). absurd (let e = call_code slot p in omega arith)) p

  calls_function : is_pseudo_call slot ≡ true → IsTarget s.place slot.imm t.place → Reaches slots A t.place t.registers
  calls_function p to =
      reaches_at slots A t.place (target_index s.place slot.imm) unknown t.registers to (unknown_agrees t.registers) (holds_second A (steps_to slots (next_index s.place) (called b)) (steps_to slots (target_index s.place slot.imm) unknown) (by_flow PseudoCall (function_flow p)))

  call_waits : is_pseudo_call slot ≡ true → FrameKept slots A (frame_of s)
  call_waits p registers k =
      reaches slots A (s.place + 1) (called b) registers (called_agrees b registers (kept_agrees caller_saved b s.registers registers known_here.agrees k)) (holds_first A (steps_to slots (next_index s.place) (called b)) (steps_to slots (target_index s.place slot.imm) unknown) (by_flow PseudoCall (function_flow p)))

-- ---- the steps of the machine

step_keeps : (slots : List bpf_insn) (A : Assignment) (slot : bpf_insn) (s t : MachineState) (b : Registers) → At slots A slot s b → FramesKept slots A s.stack → Step slots slot s t → Kept slots A t
step_keeps slots A slot s t b h fs (Calculates is_32 c is k to same) = record { reached = calculates slots A slot s t b h is_32 c is k to; frames = same_frames slots A s.stack t.stack same fs }
step_keeps slots A slot s t b h fs (LoadsConstant c is k to same) = record { reached = loads_constant slots A slot s t b h c is k to; frames = same_frames slots A s.stack t.stack same fs }
step_keeps slots A slot s t b h fs (RunsCallback c four to same) = record { reached = runs_callback slots A slot s t b h c four to; frames = same_frames slots A [] t.stack same tt }
step_keeps slots A slot s t b h fs (LoadsPacket c w k to same) = record { reached = loads_packet slots A slot s t b h c w k to; frames = same_frames slots A s.stack t.stack same fs }
step_keeps slots A slot s t b h fs (Loads c k to same) = record { reached = loads slots A slot s t b h c k to; frames = same_frames slots A s.stack t.stack same fs }
step_keeps slots A slot s t b h fs (Stores c k to same) = record { reached = stores slots A slot s t b h c k to; frames = same_frames slots A s.stack t.stack same fs }
step_keeps slots A slot s t b h fs (StoresAtomically c m k to same) = record { reached = stores_atomically slots A slot s t b h c m k to; frames = same_frames slots A s.stack t.stack same fs }
step_keeps slots A slot s t b h fs (Jumps c k same) = record { reached = jumps slots A slot s t b h c k; frames = same_frames slots A s.stack t.stack same fs }
step_keeps slots A slot s t b h fs (JumpsAnywhere c same) = record { reached = jumps_to_any slots A slot s t b h c; frames = same_frames slots A s.stack t.stack same fs }
step_keeps slots A slot s t b h fs (Branches is_32 taken c p q r is to k same) = record { reached = branches slots A slot s t b h is_32 taken c p q r is to k; frames = same_frames slots A s.stack t.stack same fs }
step_keeps slots A slot s t b h fs (Calls c m local poison k to same) = record { reached = calls slots A slot s t b h c m local poison k to; frames = same_frames slots A s.stack t.stack same fs }
step_keeps slots A slot s t b h fs (Poisoned p to same) = record { reached = poisoned slots A slot s t b h p to; frames = same_frames slots A s.stack t.stack same fs }
step_keeps slots A slot s t b h fs (CallsFunction p to same) = record { reached = calls_function slots A slot s t b h p to; frames = same_frames slots A (frame_of s ∷ s.stack) t.stack same (call_waits slots A slot s t b h p, fs) }
step_keeps slots A slot s t b h fs (Returns frame c pops to k) =
    let all : FramesKept slots A (frame ∷ t.stack) = subst (λ (u : List Frame). FramesKept slots A u) pops fs in
    record { reached = subst (λ (p : ℕ). Reaches slots A p t.registers) (sym to) (all.0 t.registers k); frames = all.1 }

executions_keep : (slots : List bpf_insn) (A : Assignment) → AreSlots slots → IsClosed slots A → (s : MachineState) → Executes slots s → Kept slots A s
executions_keep slots A all closed _ (Starts s first empty) = record {
  reached = reaches_behind slots A s.place 0 unknown s.registers first (unknown_agrees s.registers) closed.first;
  frames = same_frames slots A [] s.stack empty tt;
}
executions_keep slots A all closed _ (Proceeds slot s t before there step) =
    let kept_before = executions_keep slots A all closed s before in
    let (b, is, agrees) = kept_before.reached (slice_get_within slots s.place slot there) in
    step_keeps slots A slot s t b (record { all = all; there = there; agrees = agrees; held = closed.steps s.place b is }) kept_before.frames step

pub executions_agree : ExecutionsAgree
executions_agree slots A all closed s h = (executions_keep slots A all closed s h).reached

pub executions_are_reached : ExecutionsAreReached
executions_are_reached slots answer all p s h within =
    let (b, is, agrees) = executions_agree slots p.assignment all p.least.closed s h within in
    subst (λ (u : List Bool). slice_get u s.place ≡ Some true) (sym p.is) (told_at p.assignment s.place b is)
