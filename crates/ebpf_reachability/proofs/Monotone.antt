-- More that is known of the operands tells no less of what a slot does.
use Rattle.std.proofs.Common.{◌≡◌, ℕ, Bool, true, false, cond, Option, Some, None, refl, sym, subst, ◌<◌, List, [], ◌∷◌, ◌++◌, length, arith, ℤ, pos, negsuc, ◌+ℤ◌, nat_lt, suc}
use Rattle.std.specs.Option.{option_and_then}
use Rattle.std.specs.Prelude.{◌==◌, slice_get, slice_index_or}
use Rattle.std.proofs.lemmas.Bool.Decides.{nat_tests}
use Rattle.ebpf_linker.specs.Functions.{Flow, Return, PseudoCall, WideLoad, Jump, Branch, Next, flow}
use Rattle.ebpf_parts.specs.Slots.{dst_of, is_poisoned, src_of}
use Rattle.ebpf_parts.specs.declared.insn.bpf_insn.{bpf_insn}
use Rattle.ebpf_reachability.proofs.Order.{Tells, below_itself, learned_below, forgotten_below, called_below, below_through}
use Rattle.ebpf_reachability.specs.Effects.{IsBelow, unknown, learned, after, arithmetic, calculated, class, decided, destination, byte_swapped, is_atomic, moved, operation, source, stored, takes_register, negation, called, wide_load_result}
use Rattle.ebpf_reachability.specs.PrivateContracts.{common, commons}
use Rattle.ebpf_reachability.specs.Reached.{AreBelow, Assignment, Holds, IsStateBelow, state_at}
use Rattle.ebpf_reachability.specs.Steps.{next_index, callback, steps_by_flow, jumps_anywhere, target_index, steps_to, steps, steps_at, ways}
use Rattle.ebpf_reachability.specs.declared.registers.Registers.{Registers}
use Rattle.ebpf_reachability.specs.declared.steps.SlotState.{SlotState}

and_then_tells : {A B : Type 0} (f : A → Option B) (x y : Option A) → Tells x y → Tells (option_and_then f x) (option_and_then f y)
and_then_tells f x None t n h = cc
and_then_tells f None (Some m) t n h = absurd (let e : None ≡ Some m = t m refl in cc)
and_then_tells f (Some k) (Some m) t n h = let e : Some k ≡ Some m = t m refl in cc

two_tell : {A : Type 0} (f : ℕ → ℕ → Option A) (x y s t : Option ℕ) → Tells x y → Tells s t → Tells (option_and_then (λ m. option_and_then (λ k. f m k) s) x) (option_and_then (λ m. option_and_then (λ k. f m k) t) y)
two_tell f x None s t p q n h = cc
two_tell f None (Some m) s t p q n h = absurd (let e : None ≡ Some m = p m refl in cc)
two_tell f (Some k) (Some m) s t p q n h =
    let e : Some k ≡ Some m = p m refl in
    let same : k ≡ m = cc in
    let rest = and_then_tells (f m) s t q n h in
    subst (λ (u : ℕ). option_and_then (λ v. f u v) s ≡ Some n) (sym same) rest

chosen_tells : (t : Bool) (x y s u : Option ℕ) → Tells x y → Tells s u → Tells (cond t x s) (cond t y u)
chosen_tells true x y s u p q = p
chosen_tells false x y s u p q = q

source_tells : (slot : bpf_insn) (a b : Registers) → IsBelow a b → Tells (source slot a) (source slot b)
source_tells slot a b p = chosen_tells (takes_register slot) _ _ _ _ (p.numbers (src_of slot)) (λ n h. h)

destination_tells : (slot : bpf_insn) (a b : Registers) → IsBelow a b → Tells (destination slot a) (destination slot b)
destination_tells slot a b p = p.numbers (dst_of slot)

pub decided_tells : (slot : bpf_insn) (a b : Registers) → IsBelow a b → Tells (decided slot a) (decided slot b)
decided_tells slot a b p = two_tell _ _ _ _ _ (destination_tells slot a b p) (source_tells slot a b p)

arithmetic_tells : (slot : bpf_insn) (a b : Registers) → IsBelow a b → Tells (arithmetic slot a) (arithmetic slot b)
arithmetic_tells slot a b p =
    chosen_tells (operation slot == 11) _ _ _ _ (and_then_tells (moved slot) _ _ (source_tells slot a b p))
    (chosen_tells (operation slot == 8) _ _ _ _ (and_then_tells (negation slot) _ _ (destination_tells slot a b p))
    (chosen_tells (operation slot == 13) _ _ _ _ (and_then_tells (byte_swapped slot) _ _ (destination_tells slot a b p))
    (two_tell (calculated slot) _ _ _ _ (destination_tells slot a b p) (source_tells slot a b p))))

chosen_below : (t : Bool) (a b c d : Registers) → IsBelow a b → IsBelow c d → IsBelow (cond t a c) (cond t b d)
chosen_below true a b c d p q = p
chosen_below false a b c d p q = q

stored_below : (slot : bpf_insn) (a b : Registers) → IsBelow a b → IsBelow (stored slot a) (stored slot b)
stored_below slot a b p =
    chosen_below (is_atomic slot) _ _ _ _ (forgotten_below _ _ 0 (forgotten_below _ _ (src_of slot) (forgotten_below a b (dst_of slot) p))) p

calculated_below : (slot : bpf_insn) (a b : Registers) → IsBelow a b → IsBelow (learned a (dst_of slot) (arithmetic slot a)) (learned b (dst_of slot) (arithmetic slot b))
calculated_below slot a b p = learned_below a b (dst_of slot) _ _ p (arithmetic_tells slot a b p)

pub after_below : (slot : bpf_insn) (a b : Registers) → IsBelow a b → IsBelow (after slot a) (after slot b)
after_below slot a b p =
    chosen_below (is_poisoned slot) _ _ _ _ (below_itself unknown)
    (chosen_below (class slot == 0) _ _ _ _ (called_below _ _ (forgotten_below a b (dst_of slot) p))
    (chosen_below (class slot == 1) _ _ _ _ (forgotten_below a b (dst_of slot) p)
    (chosen_below (class slot == 2) _ _ _ _ p
    (chosen_below (class slot == 3) _ _ _ _ (stored_below slot a b p)
    (chosen_below (class slot == 4) _ _ _ _ (calculated_below slot a b p)
    (chosen_below (class slot == 7) _ _ _ _ (calculated_below slot a b p)
    (called_below a b p)))))))

-- ---- what holds the steps of what is known holds those of what more is known

pub state_below_itself : (x : Option Registers) → IsStateBelow x x
state_below_itself None = tt
state_below_itself (Some a) = below_itself a

pub state_below_through : (x y z : Option Registers) → IsStateBelow x y → IsStateBelow y z → IsStateBelow x z
state_below_through None y z p q = tt
state_below_through (Some a) None z p q = absurd p
state_below_through (Some a) (Some b) None p q = absurd q
state_below_through (Some a) (Some b) (Some c) p q = below_through a b c p q

pub holds_both : (A : Assignment) (s t : List SlotState) → Holds A s → Holds A t → Holds A (s ++ t)
holds_both A [] t p q = q
holds_both A (x ∷ s) t p q = (p.0, holds_both A s t p.1 q)

pub holds_first : (A : Assignment) (s t : List SlotState) → Holds A (s ++ t) → Holds A s
holds_first A [] t p = tt
holds_first A (x ∷ s) t p = (p.0, holds_first A s t p.1)

pub holds_second : (A : Assignment) (s t : List SlotState) → Holds A (s ++ t) → Holds A t
holds_second A [] t p = p
holds_second A (x ∷ s) t p = holds_second A s t p.1

-- a higher assignment holds no less
pub holds_above : (A B : Assignment) (s : List SlotState) → AreBelow A B → Holds A s → Holds B s
holds_above A B [] p h = tt
holds_above A B (x ∷ s) p h = (state_below_through (Some x.registers) (state_at A x.place) (state_at B x.place) h.0 (p x.place), holds_above A B s p h.1)

one_below : (A : Assignment) (t : Bool) (n : ℕ) (a b : Registers) → IsBelow a b → Holds A (cond t (record { place = n; registers = b } ∷ []) []) → Holds A (cond t (record { place = n; registers = a } ∷ []) [])
one_below A true n a b p h = (state_below_through (Some a) (Some b) (state_at A n) p h.0, tt)
one_below A false n a b p h = tt

leads_below : (slots : List bpf_insn) (A : Assignment) (x : ℤ) (a b : Registers) → IsBelow a b → Holds A (steps_to slots x b) → Holds A (steps_to slots x a)
leads_below slots A (negsuc n) a b p h = tt
leads_below slots A (pos n) a b p h = one_below A (nat_lt n (length slots)) n a b p h

-- a jump that decides takes one of the two ways of one that doesn't
ways_below : (A : Assignment) (x y : Option Bool) (s t u v : List SlotState) → Tells x y → (Holds A u → Holds A s) → (Holds A v → Holds A t) → Holds A (ways y u v) → Holds A (ways x s t)
ways_below A None None s t u v p q r h = holds_both A s t (q (holds_first A u v h)) (r (holds_second A u v h))
ways_below A (Some true) None s t u v p q r h = r (holds_second A u v h)
ways_below A (Some false) None s t u v p q r h = q (holds_first A u v h)
ways_below A None (Some d) s t u v p q r h = absurd (let e : None ≡ Some d = p d refl in cc)
ways_below A (Some true) (Some true) s t u v p q r h = r h
ways_below A (Some false) (Some false) s t u v p q r h = q h
ways_below A (Some true) (Some false) s t u v p q r h = absurd (let e : Some true ≡ Some false = p false refl in cc)
ways_below A (Some false) (Some true) s t u v p q r h = absurd (let e : Some false ≡ Some true = p true refl in cc)

follow_below : (slots : List bpf_insn) (A : Assignment) (i : ℕ) (slot : bpf_insn) (a b : Registers) (f : Flow) → IsBelow a b → Holds A (steps_by_flow slots i slot b f) → Holds A (steps_by_flow slots i slot a f)
follow_below slots A i slot a b Return p h = tt
follow_below slots A i slot a b PseudoCall p h =
    let back = steps_to slots (next_index i) (called b) in
    let there = steps_to slots (target_index i slot.imm) unknown in
    holds_both A (steps_to slots (next_index i) (called a)) there (leads_below slots A (next_index i) _ _ (called_below a b p) (holds_first A back there h)) (holds_second A back there h)
follow_below slots A i slot a b WideLoad p h =
    let next = steps_to slots (pos i +ℤ pos 2) (learned b (dst_of slot) (wide_load_result slots i slot)) in
    let there = callback slots i slot in
    holds_both A (steps_to slots (pos i +ℤ pos 2) (learned a (dst_of slot) (wide_load_result slots i slot))) there (leads_below slots A (pos i +ℤ pos 2) _ _ (learned_below a b (dst_of slot) _ _ p (λ n e. e)) (holds_first A next there h)) (holds_second A next there h)
follow_below slots A i slot a b (Jump d) p h = leads_below slots A (target_index i d) a b p h
follow_below slots A i slot a b (Branch d) p h =
    ways_below A (decided slot a) (decided slot b) _ _ _ _ (decided_tells slot a b p) (leads_below slots A (next_index i) a b p) (leads_below slots A (target_index i d) a b p) h
follow_below slots A i slot a b Next p h = leads_below slots A (next_index i) _ _ (after_below slot a b p) h

steps_at_below : (slots : List bpf_insn) (A : Assignment) (i : ℕ) (x : Option bpf_insn) (a b : Registers) → IsBelow a b → Holds A (steps_at slots i b x) → Holds A (steps_at slots i a x)
steps_at_below slots A i None a b p h = tt
steps_at_below slots A i (Some slot) a b p h = follow_below slots A i slot a b (flow slot) p h

pub steps_below : (slots : List bpf_insn) (A : Assignment) (i : ℕ) (a b : Registers) → IsBelow a b → Holds A (steps slots i b) → Holds A (steps slots i a)
steps_below slots A i a b p h =
    let there = jumps_anywhere slots (slice_get slots i) in
    holds_both A (steps_at slots i a (slice_get slots i)) there (steps_at_below slots A i (slice_get slots i) a b p (holds_first A (steps_at slots i b (slice_get slots i)) there h)) (holds_second A (steps_at slots i b (slice_get slots i)) there h)

within_true : (n m : ℕ) → n < m → nat_lt n m ≡ true
within_true n m h = grind (arith, nat_tests)

one_held : (A : Assignment) (t : Bool) (n : ℕ) (a : Registers) → t ≡ true → Holds A (cond t (record { place = n; registers = a } ∷ []) []) → IsStateBelow (Some a) (state_at A n)
one_held A true n a e h = h.0
one_held A false n a e h = cc

-- a step to a place of the program that is held
pub leads_held : (slots : List bpf_insn) (A : Assignment) (n : ℕ) (a : Registers) → n < length slots → Holds A (steps_to slots (pos n) a) → IsStateBelow (Some a) (state_at A n)
leads_held slots A n a within h = one_held A (nat_lt n (length slots)) n a (within_true n (length slots) within) h

-- ---- what is known where two paths meet

pub commons_filled : (xs ys zs : List (Option ℕ)) → length zs ≡ length xs → length zs ≡ length ys → ((k : ℕ) → k < length zs → slice_index_or zs k None ≡ common (slice_index_or xs k None) (slice_index_or ys k None)) → zs ≡ commons xs ys
commons_filled [] ys [] a b h = refl
commons_filled [] ys (z ∷ zs) a b h = absurd (omega arith)
commons_filled (x ∷ xs) ys [] a b h = absurd (omega arith)
commons_filled (x ∷ xs) [] (z ∷ zs) a b h = absurd (omega arith)
commons_filled (x ∷ xs) (y ∷ ys) (z ∷ zs) a b h =
    let first : z ≡ common x y = h 0 (omega arith) in
    let rest : zs ≡ commons xs ys = commons_filled xs ys zs (omega arith) (omega arith) (λ k l. h (suc k) (omega arith)) in
    cc
