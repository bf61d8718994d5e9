-- Registers that agree with what the analysis knows of them.
use Rattle.std.proofs.Common.{◌≡◌, ◌≢◌, ℕ, ◌%◌, ◌^◌, ◌<◌, ◌⊎◌, Bool, true, false, cond, List, [], ◌∷◌, Option, Some, None, refl, sym, ◌∙◌, subst, inl, inr, arith, get_or}
use Rattle.std.specs.Prelude.{◌==◌, IfSome}
use Rattle.std.specs.Option.{option_and_then}
use Rattle.std.specs.Int.{w32, w64, cast_unsigned}
use Rattle.std.specs.Int.RustNames.{FitsSigned}
use Rattle.std.proofs.lemmas.Bool.Decides.{eqb_tells}
use Rattle.std.proofs.lemmas.List.{get_or_past}
use Rattle.ebpf_parts.specs.declared.insn.bpf_insn.{bpf_insn}
use Rattle.ebpf_parts.specs.Slots.{dst_of, src_of}
use Rattle.ebpf_linker.specs.Functions.{Among}
use Rattle.ebpf_reachability.specs.Arithmetic.{compared}
use Rattle.ebpf_reachability.specs.ConcreteMachine.{Agrees, KeepsAllBut, caller_saved, condition, operand, result}
use Rattle.ebpf_reachability.specs.Effects.{arithmetic, byte_swapped, calculated, called, class, decided, destination, forgotten, known, learned, moved, negation, operation, source, takes_register, unknown}
use Rattle.ebpf_reachability.specs.declared.registers.Registers.{Registers}
use Rattle.ebpf_reachability.proofs.MachineNumbers.{cast_below, condition_told, result_told, told, told_on}
use Rattle.ebpf_reachability.proofs.Order.{Tells, read_written}
use Rattle.ebpf_reachability.proofs.Visiting.{nothing_there}

-- ---- registers that agree with what is known, but for some

abbrev pub AgreesBut : List ℕ → Registers → (ℕ → ℕ) → Type 0
AgreesBut rs b registers = (r n : ℕ) → known b r ≡ Some n → Among rs r ⊎ (registers r ≡ n)

pub kept_agrees : (rs : List ℕ) (b : Registers) (before behind : ℕ → ℕ) → Agrees b before → KeepsAllBut rs before behind → AgreesBut rs b behind
kept_agrees rs b before behind p k r n h = elim (k r) [ inl m ↦ inl m | inr e ↦ inr (e ∙ p r n h) ]

known_written : (b : Registers) (q : ℕ) (x : Option ℕ) (r n : ℕ) → known (learned b q x) r ≡ Some n → ((r ≡ q) × (x ≡ Some n)) ⊎ ((r ≢ q) × (known b r ≡ Some n))
known_written b q x r n h =
    elim (read_written b.numbers q r x) [
      | inl here ↦ inl (here.0, sym here.2 ∙ h)
      | inr other ↦ elim other.0 [
        | inl apart ↦ inr (apart, sym other.1 ∙ h)
        | inr past ↦ elim (eqb_tells r q) [
          | inl same ↦ absurd (let none : get_or b.numbers r None ≡ None = get_or_past b.numbers r None (let e = same.1 in omega arith) in let some : get_or b.numbers r None ≡ Some n = sym other.1 ∙ h in cc)
          | inr apart ↦ inr (apart.1, sym other.1 ∙ h)
        ]
      ]
    ]

not_first : (q r : ℕ) (rs : List ℕ) → r ≢ q → Among (q ∷ rs) r → Among rs r
not_first q r rs apart (inl e) = absurd (apart (sym e))
not_first q r rs apart (inr m) = m

pub forgot : (q : ℕ) (rs : List ℕ) (b : Registers) (registers : ℕ → ℕ) → AgreesBut (q ∷ rs) b registers → AgreesBut rs (forgotten b q) registers
forgot q rs b registers p r n h =
    elim (known_written b q None r n h) [
      | inl here ↦ absurd (let e = here.1 in cc)
      | inr other ↦ elim (p r n other.1) [ inl m ↦ inl (not_first q r rs other.0 m) | inr e ↦ inr e ]
    ]

pub all_agree : (b : Registers) (registers : ℕ → ℕ) → AgreesBut [] b registers → Agrees b registers
all_agree b registers p r n h = elim (p r n h) [ inl m ↦ absurd m | inr e ↦ e ]

pub learned_agrees : (b : Registers) (q : ℕ) (x : Option ℕ) (registers : ℕ → ℕ) → AgreesBut (q ∷ []) b registers → ((n : ℕ) → x ≡ Some n → registers q ≡ n) → Agrees (learned b q x) registers
learned_agrees b q x registers p f r n h =
    elim (known_written b q x r n h) [
      | inl here ↦ subst (λ (u : ℕ). registers u ≡ n) (sym here.0) (f n here.1)
      | inr other ↦ elim (p r n other.1) [ inl m ↦ absurd (not_first q r [] other.0 m) | inr e ↦ e ]
    ]

pub called_agrees : (b : Registers) (registers : ℕ → ℕ) → AgreesBut caller_saved b registers → Agrees (called b) registers
called_agrees b registers p =
    all_agree _ registers (forgot 5 [] _ registers (forgot 4 (5 ∷ []) _ registers (forgot 3 (4 ∷ 5 ∷ []) _ registers (forgot 2 (3 ∷ 4 ∷ 5 ∷ []) _ registers (forgot 1 (2 ∷ 3 ∷ 4 ∷ 5 ∷ []) _ registers (forgot 0 (1 ∷ 2 ∷ 3 ∷ 4 ∷ 5 ∷ []) b registers p))))))

pub unknown_agrees : (registers : ℕ → ℕ) → Agrees unknown registers
unknown_agrees registers r n h = absurd (let none = nothing_there ℕ 11 r in cc)

-- ---- operands, results and conditions

source_value : (t : Bool) (x : Option ℕ) (m v n : ℕ) → (x ≡ Some n → m ≡ n) → cond t x (Some v) ≡ Some n → cond t m v ≡ n
source_value true x m v n f h = f h
source_value false x m v n f h = cc

operand_value : (slot : bpf_insn) (b : Registers) (registers : ℕ → ℕ) → Agrees b registers → (n : ℕ) → source slot b ≡ Some n → operand slot registers ≡ n
operand_value slot b registers p n h =
    source_value (takes_register slot) (known b (src_of slot)) (registers (src_of slot)) (cast_unsigned w64 slot.imm) n (p (src_of slot) n) h

chosen_below : (t : Bool) (m n k : ℕ) → m < k → n < k → cond t m n < k
chosen_below true m n k p q = p
chosen_below false m n k p q = q

operand_below : (slot : bpf_insn) (registers : ℕ → ℕ) → ((r : ℕ) → registers r < 2 ^ 64) → FitsSigned w32 slot.imm → operand slot registers < 2 ^ 64
operand_below slot registers words fits =
    chosen_below (takes_register slot) _ _ _ (words (src_of slot)) (cast_below w64 slot.imm (let h = fits.sfits in omega arith))

one_told : {X : Type 0} (f : ℕ → Option X) (x : Option ℕ) (v : ℕ) → ((n : ℕ) → x ≡ Some n → v ≡ n) → Tells (f v) (option_and_then f x)
one_told f None v p n h = cc
one_told f (Some m) v p n h = subst (λ (u : ℕ). f u ≡ Some n) (sym (p m refl)) h

both_told : {X : Type 0} (f : ℕ → ℕ → Option X) (x s : Option ℕ) (v w : ℕ) → ((n : ℕ) → x ≡ Some n → v ≡ n) → ((n : ℕ) → s ≡ Some n → w ≡ n) → Tells (f v w) (option_and_then (λ m. option_and_then (λ k. f m k) s) x)
both_told f None s v w p q n h = cc
both_told f (Some m) s v w p q n h =
    subst (λ (u : ℕ). f u w ≡ Some n) (sym (p m refl)) (one_told (f m) s w q n h)

arithmetic_told : (slot : bpf_insn) (b : Registers) (registers : ℕ → ℕ) → Agrees b registers → Tells (told slot (registers (dst_of slot)) (operand slot registers)) (arithmetic slot b)
arithmetic_told slot b registers p =
    let there = p (dst_of slot) in
    let here = operand_value slot b registers p in
    told_on (operation slot == 11) (one_told (moved slot) (source slot b) (operand slot registers) here)
    (told_on (operation slot == 8) (one_told (negation slot) (destination slot b) (registers (dst_of slot)) there)
    (told_on (operation slot == 13) (one_told (byte_swapped slot) (destination slot b) (registers (dst_of slot)) there)
    (both_told (calculated slot) (destination slot b) (source slot b) (registers (dst_of slot)) (operand slot registers) there here)))

-- what the analysis knows of a result is the result
pub result_known : (slot : bpf_insn) (b : Registers) (registers : ℕ → ℕ) → ((r : ℕ) → registers r < 2 ^ 64) → FitsSigned w32 slot.imm → Agrees b registers → Tells (result (class slot == 4) slot registers) (arithmetic slot b)
result_known slot b registers words fits p n h =
    result_told slot (registers (dst_of slot)) (operand slot registers) (words (dst_of slot)) (operand_below slot registers words fits) n (arithmetic_told slot b registers p n h)

-- and what it knows of a condition is the condition
pub condition_known : (slot : bpf_insn) (b : Registers) (registers : ℕ → ℕ) → ((r : ℕ) → registers r < 2 ^ 64) → FitsSigned w32 slot.imm → Agrees b registers → Tells (condition (class slot == 6) slot registers) (decided slot b)
condition_known slot b registers words fits p n h =
    let x = registers (dst_of slot) in
    let y = operand slot registers in
    let tests : ℕ → ℕ → Option Bool = λ m k. cond (class slot == 6) (compared w32 (operation slot) (m % 2 ^ 32) (k % 2 ^ 32)) (compared w64 (operation slot) m k) in
    condition_told slot (class slot == 6) x y (words (dst_of slot)) (operand_below slot registers words fits) ∙ both_told tests (destination slot b) (source slot b) x y (p (dst_of slot)) (operand_value slot b registers p) n h

pub says : {X : Type 0} (x : Option X) (n : X) (P : X → Type 0) → x ≡ Some n → IfSome x P → P n
says {X} x n P e h = subst (λ (z : Option X). IfSome z P) e h
