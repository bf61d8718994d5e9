-- How much more may be forgotten: what bounds the search.
use Rattle.std.specs.Prelude.{ℕ, ◌+◌, Option, Some, None, List, [], ◌∷◌, ◌≡◌, pos, Bool, is_some}
use Rattle.std.specs.Prelude.{length, map, slice_index_or, ⊤, ◌*◌, ◌≤◌, ◌⊎◌}
use Rattle.std.specs.List.{sum_by}
use Rattle.ebpf_linker.specs.Functions.{Among}
use Rattle.ebpf_parts.specs.declared.insn.bpf_insn.{bpf_insn}
use Rattle.ebpf_reachability.specs.Effects.{IsBelow, unknown}
use Rattle.ebpf_reachability.specs.Steps.{steps_to, steps}
use Rattle.ebpf_reachability.specs.declared.registers.Registers.{Registers}
use Rattle.ebpf_reachability.specs.declared.steps.SlotState.{SlotState}

-- how many numbers are known
abbrev pub numbers_known : List (Option ℕ) → ℕ
numbers_known [] = 0
numbers_known (None ∷ xs) = numbers_known xs
numbers_known (Some n ∷ xs) = 1 + numbers_known xs

-- how often a slot may still change: it is reached once, and each of its registers is forgotten
-- once
abbrev pub changes_left : Option Registers → ℕ
changes_left None = 12
changes_left (Some a) = numbers_known a.numbers

-- ---- which slots of a program are reached

-- of each slot nothing, where it isn't reached, or what is known of the registers there
abbrev pub Assignment : Type 0
Assignment = List (Option Registers)

abbrev pub state_at : Assignment → ℕ → Option Registers
state_at A i = slice_index_or A i None

-- the order at one slot: not reached is below all
abbrev pub IsStateBelow : Option Registers → Option Registers → Type 0
IsStateBelow None y = ⊤
IsStateBelow (Some a) None = ⊥
IsStateBelow (Some a) (Some b) = IsBelow a b

-- the order of assignments: slot by slot
abbrev pub AreBelow : Assignment → Assignment → Type 0
AreBelow A B = (i : ℕ) → IsStateBelow (state_at A i) (state_at B i)

-- an assignment holds steps: where each leads is reached, and no more is known there than behind
-- the step
abbrev pub Holds : Assignment → List SlotState → Type 0
Holds A [] = ⊤
Holds A (step ∷ more) = IsStateBelow (Some step.registers) (state_at A step.place) × Holds A more

-- it holds the first slot, with nothing known, and the steps of each slot that it reaches
pub record IsClosed (slots : List bpf_insn) (A : Assignment) : Type 0 where
  pub as_many : length A ≡ length slots
  pub first : Holds A (steps_to slots (pos 0) unknown)
  pub steps : (i : ℕ) (a : Registers) → state_at A i ≡ Some a → Holds A (steps slots i a)

-- the least of those
pub record IsLeast (slots : List bpf_insn) (A : Assignment) : Type 0 where
  pub closed : IsClosed slots A
  pub least : (B : Assignment) → IsClosed slots B → AreBelow A B

-- whether each slot is reached
abbrev pub reached : Assignment → List Bool
reached A = map is_some A

-- The answer tells which slots the least assignment reaches.
pub record AreReached (slots : List bpf_insn) (answer : List Bool) : Type 0 where
  pub assignment : Assignment
  pub least : IsLeast slots assignment
  pub is : answer ≡ reached assignment

-- ---- the search under way: what private functions cite

-- how much the search has yet to do at most: each change of a slot makes it follow the slot once
-- more
abbrev pub work_left : Assignment → List ℕ → ℕ
work_left A pending = 2 * sum_by changes_left A + length pending

-- Steps were taken in: from A with some slots pending to B with others.
pub record TakesIn (steps : List SlotState) (A B : Assignment) (old new : List ℕ) : Type 0 where
  pub as_many : length B ≡ length A
  pub holds : Holds B steps
  pub above : AreBelow A B
  pub least : (C : Assignment) → AreBelow A C → Holds C steps → AreBelow B C
  pub changed : (i : ℕ) → (state_at B i ≡ state_at A i) ⊎ Among new i
  pub kept : (i : ℕ) → Among old i → Among new i
  pub less : work_left B new ≤ work_left A old

-- the steps from a slot, if it is reached
abbrev pub steps_if_reached : List bpf_insn → ℕ → Option Registers → List SlotState
steps_if_reached slots i None = []
steps_if_reached slots i (Some a) = steps slots i a

-- What the search keeps: its assignment is below each closed one, it holds the first slot, and the
-- steps of each slot that isn't pending.
pub record Searched (slots : List bpf_insn) (A : Assignment) (pending : List ℕ) : Type 0 where
  pub as_many : length A ≡ length slots
  pub first : Holds A (steps_to slots (pos 0) unknown)
  pub least : (C : Assignment) → IsClosed slots C → AreBelow A C
  pub held : (i : ℕ) → Among pending i ⊎ Holds A (steps_if_reached slots i (state_at A i))
