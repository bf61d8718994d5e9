-- The flow of control of the separate functions and of the linked program.
--
-- A run visits the slots that it executes, in their order. A decision is the outcome of a
-- conditional jump: taken or not. Both runs visit the same slots under the same decisions
-- (`SameVisits`). A wide load is visited at its first slot alone.
--
-- Example: P is 'call f; call g; exit', f is 'call g; exit', g is 'exit'. The separate run visits
-- P.0, f.0, g.0, f.1, P.1, g.0, P.2. The linked program is P, then f at slot 3, then g at slot 5.
-- Its run visits 0, 3, 5, 4, 1, 5, 2.
use Rattle.std.specs.Prelude.{◌≡◌, ◌≢◌, ℕ, zero, suc, ◌-◌, ℤ, pos, negsuc, ◌+ℤ◌, Bool, true, nat_lt}
use Rattle.std.specs.Prelude.{if◌then◌else◌, ◌⊎◌, List, [], ◌∷◌, map, length, Option, Some, None}
use Rattle.std.specs.Prelude.{slice_get}
use Rattle.ebpf_parts.specs.declared.insn.bpf_insn.{bpf_insn}
use Rattle.ebpf_parts.specs.Slots.{ld_imm64, is_pseudo_call}
use Rattle.ebpf_linker.specs.Functions.{Flow, Return, PseudoCall, WideLoad, Jump, Branch, Next}
use Rattle.ebpf_linker.specs.Functions.{flow, slot_at_integer, SlotReference, Nothing, Faulty}
use Rattle.ebpf_linker.specs.Functions.{Names, Functions, body, Among}

-- code over places of some kind: the slot at a place, the place so many slots further, and where a
-- call goes
pub record Code (P : Type 0) : Type 0 where
  pub fetch : P → Option bpf_insn
  pub moved : P → ℤ → P
  pub entry : P → bpf_insn → Option P

pub record State (P : Type 0) : Type 0 where
  pub place : P
  pub stack : List P
  pub decisions : List Bool

pub data StepResult (P : Type 0) : Type 0 where
  Goes : State P → StepResult P
  Ends : StepResult P
  Waits : StepResult P
  Leaves : StepResult P

pub data Stop : Type 0 where
  Going : Stop
  Ended : Stop
  Waiting : Stop
  Left : Stop

pub record Run (P : Type 0) : Type 0 where
  pub visited : List P
  pub stop : Stop

module _ {P : Type 0} where
  abbrev pub pops : List Bool → List P → StepResult P
  pops ds [] = Ends
  pops ds (x ∷ xs) = Goes (record { place = x; stack = xs; decisions = ds })

  abbrev pub enters : P → List P → List Bool → Option P → StepResult P
  enters back stack ds None = Leaves
  enters back stack ds (Some x) = Goes (record { place = x; stack = back ∷ stack; decisions = ds })

  abbrev pub decides : P → P → List P → List Bool → StepResult P
  decides there here stack [] = Waits
  decides there here stack (d ∷ ds) =
      Goes (record { place = (if d then there else here); stack = stack; decisions = ds })

  -- one step at a slot
  abbrev pub follow : Code P → State P → bpf_insn → Flow → StepResult P
  follow c s i Return = pops s.decisions s.stack
  follow c s i PseudoCall = enters (c.moved s.place (pos 1)) s.stack s.decisions (c.entry s.place i)
  follow c s i WideLoad = Goes (record s { place = c.moved s.place (pos 2) })
  follow c s i (Jump d) = Goes (record s { place = c.moved (c.moved s.place (pos 1)) d })
  follow c s i (Branch d) =
      decides (c.moved (c.moved s.place (pos 1)) d) (c.moved s.place (pos 1)) s.stack s.decisions
  follow c s i Next = Goes (record s { place = c.moved s.place (pos 1) })

  abbrev pub step_at : Code P → State P → Option bpf_insn → StepResult P
  step_at c s None = Leaves
  step_at c s (Some i) = follow c s i (flow i)

  abbrev pub after_step : (State P → Run P) → P → StepResult P → Run P
  after_step rest x (Goes s) = record { visited = x ∷ (rest s).visited; stop = (rest s).stop }
  after_step rest x Ends = record { visited = x ∷ []; stop = Ended }
  after_step rest x Waits = record { visited = x ∷ []; stop = Waiting }
  after_step rest x Leaves = record { visited = []; stop = Left }

  -- at most n steps
  abbrev pub run_steps : Code P → ℕ → State P → Run P
  run_steps c zero s = record { visited = []; stop = Going }
  run_steps c (suc n) s = after_step (run_steps c n) s.place (step_at c s (c.fetch s.place))

  abbrev pub begin : P → List Bool → State P
  begin x ds = record { place = x; stack = []; decisions = ds }

module _ {K : Type 0} where
  abbrev pub start_of : Option K → Option (K × ℤ)
  start_of None = None
  start_of (Some k) = Some (k, pos 0)

module _ {K E : Type 0} where
  -- the key that a slot refers to
  abbrev pub referred_key : SlotReference K E → Option K
  referred_key Nothing = None
  referred_key (Faulty e) = None
  referred_key (Names k) = Some k

  abbrev pub reference_at : Functions K E → K → ℤ → SlotReference K E
  reference_at F k (pos n) = F.reference k n
  reference_at F k (negsuc n) = Nothing

  -- the separate functions: a place is a key and a slot
  abbrev pub separate : Functions K E → Code (K × ℤ)
  separate F = record {
    fetch = λ x. slot_at_integer (body F x.0) x.1;
    moved = λ x d. (x.0, x.1 +ℤ d);
    entry = λ x i. start_of (referred_key (reference_at F x.0 x.1));
  }

  -- the name of a place in these functions, one after the other
  abbrev pub name_from : Functions K E → List K → ℕ → Option (K × ℤ)
  name_from F [] x = None
  name_from F (k ∷ ks) x =
      if nat_lt x (length (body F k))
      then Some (k, pos x)
      else name_from F ks (x - length (body F k))

  abbrev pub name : Functions K E → List K → ℤ → Option (K × ℤ)
  name F ks (pos x) = name_from F ks x
  name F ks (negsuc x) = None

-- one list of slots
abbrev pub flat_code : List bpf_insn → Code ℤ
flat_code out = record {
  fetch = λ x. slot_at_integer out x;
  moved = λ x d. x +ℤ d;
  entry = λ x i. Some ((x +ℤ pos 1) +ℤ i.imm);
}

module _ {K E : Type 0} where
  -- under every list of decisions both visit the same slots, in the same order
  abbrev pub SameVisits : Functions K E → K → List K → List bpf_insn → Type 0
  SameVisits F p ks out =
      (ds : List Bool) (n : ℕ)
      → (run_steps (separate F) n (begin (p, pos 0) ds)).stop ≢ Left
      → (map (name F (p ∷ ks)) (run_steps (flat_code out) n (begin (pos 0) ds)).visited
      ≡ map Some (run_steps (separate F) n (begin (p, pos 0) ds)).visited)
      × ((run_steps (flat_code out) n (begin (pos 0) ds)).stop
      ≡ (run_steps (separate F) n (begin (p, pos 0) ds)).stop)

  -- each reference of these functions is on a pseudo call or a wide load
  abbrev pub OnCallsOrLoads : Functions K E → List K → Type 0
  OnCallsOrLoads F ks =
      (k : K) (i : ℕ) (s : bpf_insn)
      → Among ks k
      → slice_get (body F k) i ≡ Some s
      → F.reference k i ≢ Nothing
      → (is_pseudo_call s ≡ true) ⊎ (s.code ≡ ld_imm64)
