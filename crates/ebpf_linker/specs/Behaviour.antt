-- What a linked program computes.
--
-- Under every semantics of instructions, from every state and after every number of steps, the
-- linked program is in the state of the separate functions, at the corresponding slot
-- (`SameBehaviour`). Nothing is said of a separate run that has left its function.
--
-- A semantics is any effect of instructions on a state of any type: registers, memory, maps, the
-- results of helper functions. It sees the function that an instruction refers to. It sees neither
-- the number nor the source register in that slot, since linking writes these.
--
-- Example: P is 'call f; call g; exit', f is 'call g; exit', g is 'exit'. The state is the list of
-- the functions that were called, the last one first. After 3 steps the separate run is at slot 1
-- of f. The linked program 'call +2; call +3; exit; call +1; exit; exit' is then at slot 4. After 7
-- steps both have exited with g, g, f.
use Rattle.std.specs.Prelude.{◌≡◌, ℕ, zero, suc, ℤ, pos, negsuc, ◌+ℤ◌, Bool, if◌then◌else◌, List}
use Rattle.std.specs.Prelude.{[], ◌∷◌, Option, Some, None, option_map, ◌==◌}
use Rattle.std.specs.Option.{option_and_then}
use Rattle.ebpf_parts.specs.declared.insn.bpf_insn.{bpf_insn}
use Rattle.ebpf_parts.specs.Slots.{ld_imm64, dst_of}
use Rattle.ebpf_linker.specs.Functions.{SlotReference, Nothing, Faulty, Names, Functions, body}
use Rattle.ebpf_linker.specs.Functions.{BeginsAt}
use Rattle.ebpf_linker.specs.Machine.{Code, State, StepResult, Goes, Ends, Waits, Leaves, step_at}
use Rattle.ebpf_linker.specs.Machine.{reference_at, separate, name, flat_code}

-- ---- instructions, and what they mean

-- What a slot is to a semantics: the slot itself, or a reference to the function at a key.
pub data SlotMeaning (K : Type 0) : Type 0 where
  Plain : (slot : bpf_insn) → SlotMeaning K
  RefersTo : (code destination : ℕ) (offset : ℤ) (key : K) → SlotMeaning K

-- an instruction: its slot and, of a wide load, its second slot
pub record Instruction (K : Type 0) : Type 0 where
  pub first : SlotMeaning K
  pub second : Option (SlotMeaning K)

-- A semantics: the state after an instruction, and whether a conditional jump is taken, by the
-- state before.
pub record Semantics (K S : Type 0) : Type 0 where
  pub state_after : Instruction K → S → S
  pub is_taken : Instruction K → S → Bool

-- code whose slots have a meaning; a run has left its function where a slot has none
pub record MeaningfulCode (P K : Type 0) : Type 0 where
  pub code : Code P
  pub meaning : P → bpf_insn → Option (SlotMeaning K)

module _ {P K : Type 0} where
  abbrev pub meaning_at : MeaningfulCode P K → P → Option (SlotMeaning K)
  meaning_at c place = option_and_then (c.meaning place) (c.code.fetch place)

  -- the instruction that begins with this slot
  abbrev pub instruction_of : MeaningfulCode P K → P → bpf_insn → SlotMeaning K
      → Option (Instruction K)
  instruction_of c place slot first =
      if slot.code == ld_imm64
      then option_map (λ second. record { first = first; second = Some second })
      (meaning_at c (c.code.moved place (pos 1)))
      else Some (record { first = first; second = None })

  -- the instruction at a place, if all its slots are there
  abbrev pub instruction_at : MeaningfulCode P K → P → Option (Instruction K)
  instruction_at c place =
      option_and_then (λ slot. option_and_then (instruction_of c place slot) (c.meaning place slot))
      (c.code.fetch place)

-- ---- machines that execute instructions

-- where a machine is, where its open calls return to, and its state
pub record Machine (P S : Type 0) : Type 0 where
  pub place : P
  pub stack : List P
  pub state : S

-- a run after some steps: it goes on, has ended, or has left its function (a slot of the next
-- instruction is missing)
pub data Execution (P S : Type 0) : Type 0 where
  Running : Machine P S → Execution P S
  Exited : (state : S) → Execution P S
  Outside : Execution P S

module _ {P S : Type 0} where
  -- a new state, with the flow of control of a step (which doesn't wait: it has an outcome)
  abbrev pub continued : S → StepResult P → Execution P S
  continued state (Goes s) = Running (record { place = s.place; stack = s.stack; state = state })
  continued state Ends = Exited state
  continued state Waits = Outside
  continued state Leaves = Outside

  -- the flow of control of a machine whose next branch has this outcome
  abbrev pub with_outcome : Machine P S → Bool → State P
  with_outcome m taken =
      record { place = m.place; stack = m.stack; decisions = taken ∷ [] }

  abbrev pub then_next : (Machine P S → Execution P S) → Execution P S → Execution P S
  then_next next (Running m) = next m
  then_next next (Exited state) = Exited state
  then_next next Outside = Outside

  abbrev pub started : P → S → Machine P S
  started place state = record { place = place; stack = []; state = state }

module _ {P K S : Type 0} where
  -- one step: the semantics gives the state and the outcome of a branch
  abbrev pub executed : MeaningfulCode P K → Semantics K S → Machine P S → Option (Instruction K)
      → Execution P S
  executed c semantics m None = Outside
  executed c semantics m (Some i) =
      continued (semantics.state_after i m.state)
      (step_at c.code (with_outcome m (semantics.is_taken i m.state)) (c.code.fetch m.place))

  -- the execution after n steps of a machine
  abbrev pub execution : MeaningfulCode P K → Semantics K S → ℕ → Machine P S → Execution P S
  execution c semantics zero m = Running m
  execution c semantics (suc n) m =
      then_next (execution c semantics n) (executed c semantics m (instruction_at c m.place))

-- ---- the separate functions and the linked program

module _ {K : Type 0} where
  -- a reference to a function; one without slots has no first slot to refer to
  abbrev pub reference_to : K → List bpf_insn → bpf_insn → Option (SlotMeaning K)
  reference_to key [] slot = None
  reference_to key (first ∷ rest) slot = Some (RefersTo slot.code (dst_of slot) slot.off key)

  -- the function of a place, where that is the function's first slot
  abbrev pub if_first : K × ℤ → Option K
  if_first (key, pos zero) = Some key
  if_first (key, pos (suc i)) = None
  if_first (key, negsuc i) = None

module _ {K E : Type 0} where
  -- a slot of a separate function, by what it refers to
  abbrev pub separate_meaning : Functions K E → SlotReference K E → bpf_insn
      → Option (SlotMeaning K)
  separate_meaning F Nothing slot = Some (Plain slot)
  separate_meaning F (Faulty e) slot = None
  separate_meaning F (Names key) slot = reference_to key (body F key) slot

  abbrev pub separate_code : Functions K E → MeaningfulCode (K × ℤ) K
  separate_code F = record {
    code = separate F;
    meaning = λ x slot. separate_meaning F (reference_at F x.0 x.1) slot;
  }

  -- A slot of the linked program. It is a reference where the slot is that it is a copy of. It
  -- refers to the function whose copy begins where its own number leads.
  abbrev pub linked_meaning : Functions K E → List K → ℤ → bpf_insn → SlotReference K E
      → Option (SlotMeaning K)
  linked_meaning F ks place slot Nothing = Some (Plain slot)
  linked_meaning F ks place slot (Faulty e) = None
  linked_meaning F ks place slot (Names key) =
      option_map (λ named. RefersTo slot.code (dst_of slot) slot.off named)
      (option_and_then if_first (name F ks ((place +ℤ pos 1) +ℤ slot.imm)))

  abbrev pub linked_code : Functions K E → List K → List bpf_insn → MeaningfulCode ℤ K
  linked_code F ks out = record {
    code = flat_code out;
    meaning = λ place slot.
        option_and_then (λ x. linked_meaning F ks place slot (reference_at F x.0 x.1))
        (name F ks place);
  }

  -- a place of the linked program is a slot of a function: that slot in one of its copies
  abbrev pub Corresponds : Functions K E → List K → K × ℤ → ℤ → Type 0
  Corresponds F ks x place = (base : ℕ) × BeginsAt F ks x.0 base × (place ≡ pos base +ℤ x.1)

  -- Both runs are in the same state at corresponding slots, or have exited in the same state.
  -- Nothing is said of a separate run that has left its function.
  abbrev pub SameExecution : {S : Type 0} → Functions K E → List K → Execution (K × ℤ) S
      → Execution ℤ S → Type 0
  SameExecution F ks (Running m) (Running n) =
      Corresponds F ks m.place n.place × (n.state ≡ m.state)
  SameExecution F ks (Exited state) (Exited other) = other ≡ state
  SameExecution F ks Outside other = Unit {0}
  SameExecution F ks (Running m) (Exited other) = ⊥
  SameExecution F ks (Running m) Outside = ⊥
  SameExecution F ks (Exited state) (Running n) = ⊥
  SameExecution F ks (Exited state) Outside = ⊥

  -- For every semantics over the states S, every start and every number of steps: the program p,
  -- linked with the functions ks, is in the state of the separate functions, at the corresponding
  -- slot.
  abbrev pub SameBehaviour : (S : Type 0) → Functions K E → K → List K → List bpf_insn → Type 0
  SameBehaviour S F p ks out =
      (semantics : Semantics K S) (start : S) (n : ℕ)
      → SameExecution F (p ∷ ks)
      (execution (separate_code F) semantics n (started (p, pos 0) start))
      (execution (linked_code F (p ∷ ks) out) semantics n (started (pos 0) start))

-- The instructions that were executed, the last one first. Every state of a semantics is a function
-- of the first state and of this list.
abbrev pub History : Type 0 → Type 0
History K = List (Instruction K)
