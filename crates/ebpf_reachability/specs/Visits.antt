-- What each closed assignment reaches: all that a program can come to.
use Rattle.std.specs.Prelude.{◌≡◌, ℕ, zero, suc, ◌<◌, ℤ, pos, negsuc, Bool, IsSome, Option, Some}
use Rattle.std.specs.Prelude.{None, List, [], ◌∷◌, length, ⊤, ◌⊎◌, true, slice_get}
use Rattle.std.specs.Option.{option_and_then}
use Rattle.ebpf_parts.specs.declared.insn.bpf_insn.{bpf_insn}
use Rattle.ebpf_linker.specs.Functions.{Flow, Branch, flow, slot_at_integer}
use Rattle.ebpf_linker.specs.Machine.{State, StepResult, Goes, Ends, Waits, Leaves, run_steps}
use Rattle.ebpf_linker.specs.Machine.{begin, flat_code, step_at}
use Rattle.ebpf_reachability.specs.declared.registers.Registers.{Registers}
use Rattle.ebpf_reachability.specs.declared.steps.SlotState.{SlotState}
use Rattle.ebpf_reachability.specs.Effects.{IsBelow, known, decided}
use Rattle.ebpf_reachability.specs.Steps.{steps}
use Rattle.ebpf_reachability.specs.Reached.{Assignment, AreReached, IsClosed, state_at}

-- one program has one answer
abbrev pub AnswerIsOne : Type 0
AnswerIsOne =
    (slots : List bpf_insn) (one other : List Bool)
    → AreReached slots one
    → AreReached slots other
    → one ≡ other

abbrev pub IsReached : Assignment → ℤ → Type 0
IsReached A (pos i) = IsSome (state_at A i)
IsReached A (negsuc i) = ⊥

abbrev pub AllReached : Assignment → List ℤ → Type 0
AllReached A [] = ⊤
AllReached A (x ∷ xs) = IsReached A x × AllReached A xs

-- how a slot decides by what is known there, if it is a conditional jump
abbrev pub known_way : Option Registers → bpf_insn → Flow → Option Bool
known_way x slot (Branch d) = option_and_then (decided slot) x
known_way x slot _ = None

-- the decision to come is the known one, if one is known
abbrev pub HeedsOne : Option Bool → List Bool → Type 0
HeedsOne None decisions = ⊤
HeedsOne (Some known_one) [] = ⊤
HeedsOne (Some known_one) (d ∷ decisions) = d ≡ known_one

abbrev pub HeedsAt : Assignment → ℤ → Option bpf_insn → List Bool → Type 0
HeedsAt A (negsuc i) slot decisions = ⊤
HeedsAt A (pos i) None decisions = ⊤
HeedsAt A (pos i) (Some slot) decisions =
    HeedsOne (known_way (state_at A i) slot (flow slot)) decisions

abbrev pub HeedsTurn : (State ℤ → Type 0) → StepResult ℤ → Type 0
HeedsTurn rest (Goes s) = rest s
HeedsTurn rest Ends = ⊤
HeedsTurn rest Waits = ⊤
HeedsTurn rest Leaves = ⊤

-- In a run of the flat program's machine each decision at a jump heeds what is known there.
abbrev pub Heeds : List bpf_insn → Assignment → ℕ → State ℤ → Type 0
Heeds slots A zero s = ⊤
Heeds slots A (suc n) s =
    HeedsAt A s.place (slot_at_integer slots s.place) s.decisions
    × HeedsTurn (Heeds slots A n) (step_at (flat_code slots) s (slot_at_integer slots s.place))

-- Each place that such a run visits from the first slot is reached.
abbrev pub VisitsAreReached : Type 0
VisitsAreReached =
    (slots : List bpf_insn) (A : Assignment)
    → IsClosed slots A
    → (decisions : List Bool) (n : ℕ)
    → Heeds slots A n (begin (pos 0) decisions)
    → AllReached A (run_steps (flat_code slots) n (begin (pos 0) decisions)).visited

-- At no conditional jump do the numbers that an assignment knows decide the way.
abbrev pub DecidesNothing : List bpf_insn → Assignment → Type 0
DecidesNothing slots A =
    (i : ℕ) (slot : bpf_insn)
    → slice_get slots i ≡ Some slot
    → known_way (state_at A i) slot (flow slot) ≡ None

-- There each place is reached that any run visits, whatever it decides.
abbrev pub AllVisitsAreReached : Type 0
AllVisitsAreReached =
    (slots : List bpf_insn) (A : Assignment)
    → IsClosed slots A
    → DecidesNothing slots A
    → (decisions : List Bool) (n : ℕ)
    → AllReached A (run_steps (flat_code slots) n (begin (pos 0) decisions)).visited

-- the registers as a machine has them: eleven numbers
pub record AreNumbers (a : Registers) : Type 0 where
  pub as_many : length a.numbers ≡ 11
  pub each : (r : ℕ) → r < 11 → IsSome (known a r)

abbrev pub IsStep : List SlotState → SlotState → Type 0
IsStep [] step = ⊥
IsStep (s ∷ more) step = (s ≡ step) ⊎ IsStep more step

-- A machine comes to a slot with numbers in its registers: it begins at the first slot with any,
-- and goes on by the steps, with the numbers that these tell and any others in the registers of
-- which they tell nothing.
pub data ComesTo (slots : List bpf_insn) : ℕ → Registers → Type 0 where
  Begins : (a : Registers) → 0 < length slots → AreNumbers a → ComesTo slots 0 a
  GoesOn : (i : ℕ) (a b : Registers) (step : SlotState)
      → ComesTo slots i a
      → IsStep (steps slots i a) step
      → AreNumbers b
      → IsBelow b step.registers
      → ComesTo slots step.place b

-- Each slot to which a machine comes is reached, and no register holds another number than the one
-- that is known.
abbrev pub MachinesAreReached : Type 0
MachinesAreReached =
    (slots : List bpf_insn) (A : Assignment)
    → IsClosed slots A
    → (i : ℕ) (a : Registers)
    → ComesTo slots i a
    → (b : Registers) × (state_at A i ≡ Some b) × IsBelow a b

-- So the answer tells of each slot to which a machine comes that it is reached.
abbrev pub AnswersCoverMachines : Type 0
AnswersCoverMachines =
    (slots : List bpf_insn) (answer : List Bool)
    → AreReached slots answer
    → (i : ℕ) (a : Registers)
    → ComesTo slots i a
    → slice_get answer i ≡ Some true
