-- What holds of each closed assignment, and of the least one.
use Rattle.std.proofs.Common.{◌≡◌, ℕ, zero, suc, Bool, true, List, [], ◌∷◌, length, Option, Some, None, refl, sym, ◌∙◌, subst, inl, inr, arith}
use Rattle.std.specs.Prelude.{is_some, slice_get}
use Rattle.ebpf_reachability.specs.declared.registers.Registers.{Registers}
use Rattle.ebpf_reachability.specs.declared.steps.SlotState.{SlotState}
use Rattle.ebpf_reachability.specs.Effects.{IsBelow, unknown}
use Rattle.ebpf_reachability.specs.Steps.{steps}
use Rattle.ebpf_reachability.specs.Reached.{AreBelow, Assignment, Holds, IsStateBelow, reached, state_at}
use Rattle.ebpf_reachability.specs.Visits.{AnswerIsOne, AreNumbers, Begins, GoesOn, IsStep, MachinesAreReached, AnswersCoverMachines}
use Rattle.ebpf_reachability.proofs.Order.{below_through}
use Rattle.ebpf_reachability.proofs.Monotone.{leads_held, steps_below}
use Rattle.ebpf_reachability.proofs.Visiting.{nothing_there}

same_flag : (x y : Option Registers) → IsStateBelow x y → IsStateBelow y x → is_some x ≡ is_some y
same_flag None None p q = refl
same_flag None (Some b) p q = absurd q
same_flag (Some a) None p q = absurd p
same_flag (Some a) (Some b) p q = refl

same_flags : (A B : Assignment) → length A ≡ length B → AreBelow A B → AreBelow B A → reached A ≡ reached B
same_flags [] [] h p q = refl
same_flags [] (y ∷ B) h p q = absurd (omega arith)
same_flags (x ∷ A) [] h p q = absurd (omega arith)
same_flags (x ∷ A) (y ∷ B) h p q =
    let first = same_flag x y (p 0) (q 0) in
    let rest = same_flags A B (omega arith) (λ i. p (suc i)) (λ i. q (suc i)) in
    cc

pub answer_is_one : AnswerIsOne
answer_is_one slots one other p q =
    p.is ∙ (same_flags p.assignment q.assignment (p.least.closed.as_many ∙ sym q.least.closed.as_many) (p.least.least q.assignment q.least.closed) (q.least.least p.assignment p.least.closed) ∙ sym q.is)

-- what holds a list of steps holds each of them
holds_step : (A : Assignment) (s : List SlotState) (step : SlotState) → Holds A s → IsStep s step → IsStateBelow (Some step.registers) (state_at A step.place)
holds_step A [] step h m = absurd m
holds_step A (x ∷ s) step h (inl e) = let P : SlotState → Type 0 = λ u. IsStateBelow (Some u.registers) (state_at A u.place) in subst P e h.0
holds_step A (x ∷ s) step h (inr m) = holds_step A s step h.1 m

comes_below : (A : Assignment) (i : ℕ) (a b : Registers) (z : Option Registers) → state_at A i ≡ z → IsBelow a b → IsStateBelow (Some b) z → (c : Registers) × (state_at A i ≡ Some c) × IsBelow a c
comes_below A i a b None is p q = absurd q
comes_below A i a b (Some c) is p q = (c, is, below_through a b c p q)

-- the machine's numbers are below nothing known
numbers_below : (a : Registers) → AreNumbers a → IsBelow a unknown
numbers_below a numbers = record { as_many = numbers.as_many; numbers = λ r n e. absurd (let none = nothing_there ℕ 11 r in cc) }

pub machines_are_reached : MachinesAreReached
machines_are_reached slots A closed _ _ (Begins a some numbers) =
    comes_below A 0 a unknown (state_at A 0) refl (numbers_below a numbers) (leads_held slots A 0 unknown some closed.first)
machines_are_reached slots A closed _ _ (GoesOn j a b step before is_step numbers below) =
    let (c, is, under) = machines_are_reached slots A closed j a before in
    let holds = steps_below slots A j a c under (closed.steps j c is) in
    comes_below A step.place b step.registers (state_at A step.place) refl below (holds_step A (steps slots j a) step holds is_step)

flag_some : (x : Option Registers) (b : Registers) → x ≡ Some b → Some (is_some x) ≡ Some true
flag_some None b h = cc
flag_some (Some a) b h = refl

pub told_at : (A : Assignment) (i : ℕ) (b : Registers) → state_at A i ≡ Some b → slice_get (reached A) i ≡ Some true
told_at [] i b h = cc
told_at (x ∷ A) zero b h = flag_some x b h
told_at (x ∷ A) (suc i) b h = told_at A i b h

pub answers_cover_machines : AnswersCoverMachines
answers_cover_machines slots answer p i a comes =
    let (b, is, below) = machines_are_reached slots p.assignment p.least.closed i a comes in
    subst (λ (u : List Bool). slice_get u i ≡ Some true) (sym p.is) (told_at p.assignment i b is)
