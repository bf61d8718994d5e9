-- Examples of the concrete machine: its numbers, and an execution.
use Rattle.std.proofs.Common.{◌≡◌, ℕ, ◌^◌, ◌+◌, ◌-◌, ◌<◌, Bool, true, false, cond, Some, None, List, [], ◌∷◌, refl, sym, ap, ◌∙◌, inl, inr, arith, ℤ, pos, negsuc}
use Rattle.std.specs.Prelude.{◌==◌}
use Rattle.std.proofs.lemmas.Bool.Decides.{eqb_tells}
use Rattle.ebpf_parts.specs.declared.insn.bpf_insn.{bpf_insn}
use Rattle.ebpf_reachability.specs.ConcreteMachine.{Branches, Calculates, Executes, KeepsAllBut, MachineState, Proceeds, Starts}
use Rattle.ebpf_reachability.specs.MachineNumbers.{condition_of, result_of}

-- an instruction on r1 and r2, or on r1 and an immediate
abbrev instruction : ℕ → ℤ → ℤ → bpf_insn
instruction code off imm = record { code = code; regs = 0x21; off = off; imm = imm }

-- 3 - 5, of 64 bits and of 32 (SUB, X)
difference_of_64 : result_of false (instruction 0x1f (pos 0) (pos 0)) 3 5 ≡ Some (2 ^ 64 - 2)
difference_of_64 = refl

difference_of_32 : result_of true (instruction 0x1c (pos 0) (pos 0)) 3 5 ≡ Some (2 ^ 32 - 2)
difference_of_32 = refl

-- -13 % 3 is -1, and the least number by -1 is itself (SMOD and SDIV, X)
signed_remainder : result_of false (instruction 0x9f (pos 1) (pos 0)) (2 ^ 64 - 13) 3 ≡ Some (2 ^ 64 - 1)
signed_remainder = refl

least_quotient : result_of true (instruction 0x3c (pos 1) (pos 0)) (2 ^ 31) (2 ^ 64 - 1) ≡ Some (2 ^ 31)
least_quotient = refl

-- w1 = (s8)w2 of 0x80 (MOVSX, X), of which the upper 32 bits are zero
extended_move : result_of true (instruction 0xbc (pos 8) (pos 0)) 7 0x80 ≡ Some 0xffff_ff80
extended_move = refl

-- r1 = bswap32 r1 (END of class ALU64)
swapped_bytes : result_of false (instruction 0xd7 (pos 0) (pos 32)) 0xff_0102_0304 0 ≡ Some 0x0403_0201
swapped_bytes = refl

-- r1 = -1; r1 >>= 60 gives 15
shifted_right : result_of false (instruction 0x77 (pos 0) (pos 60)) (2 ^ 64 - 1) 60 ≡ Some 15
shifted_right = refl

-- and `if w1 > 14` jumps then (JGT of JMP32, K)
jump_taken : condition_of true (instruction 0x26 (pos 1) (pos 14)) 15 14 ≡ Some true
jump_taken = refl

-- 2 ^ 32 + 5 is above 7 by all bits, and not by the lowest 32 (JGT of JMP and JMP32)
above_by_64 : condition_of false (instruction 0x2d (pos 1) (pos 0)) (2 ^ 32 + 5) 7 ≡ Some true
above_by_64 = refl

above_by_32 : condition_of true (instruction 0x2e (pos 1) (pos 0)) (2 ^ 32 + 5) 7 ≡ Some false
above_by_32 = refl

-- an operation that the RFC doesn't define
undefined : result_of false (instruction 0xef (pos 0) (pos 0)) 1 2 ≡ None
undefined = refl

-- ---- r1 = -1; r1 >>= 60; if w1 > 14 goto +1; exit; exit

abbrev slot_of : ℕ → ℕ → ℤ → ℤ → bpf_insn
slot_of code regs off imm = record { code = code; regs = regs; off = off; imm = imm }

abbrev program : List bpf_insn
program = slot_of 0xb7 1 (pos 0) (negsuc 0) ∷ slot_of 0x77 1 (pos 0) (pos 60) ∷ slot_of 0x26 1 (pos 1) (pos 14) ∷ slot_of 0x95 0 (pos 0) (pos 0) ∷ slot_of 0x95 0 (pos 0) (pos 0) ∷ []

-- a number in r1, and 0 in each other register
abbrev holding : ℕ → ℕ → ℕ
holding n r = cond (r == 1) n 0

one_or_zero : (t : Bool) (n : ℕ) → n < 2 ^ 64 → cond t n 0 < 2 ^ 64
one_or_zero true n h = h
one_or_zero false n h = omega arith

abbrev state : ℕ → (n : ℕ) → n < 2 ^ 64 → MachineState
state place n h = record { place = place; registers = holding n; words = λ r. one_or_zero (r == 1) n h; stack = [] }

all_but_r1 : (m n : ℕ) → KeepsAllBut (1 ∷ []) (holding m) (holding n)
all_but_r1 m n r =
    elim (eqb_tells r 1) [
      | inl same ↦ inl (inl (sym same.1))
      | inr apart ↦ inr (ap (λ (t : Bool). cond t n 0) apart.0 ∙ sym (ap (λ (t : Bool). cond t m 0) apart.0))
    ]

-- the execution passes over slot 3
jumps_over : (none : 0 < 2 ^ 64) (ones : 2 ^ 64 - 1 < 2 ^ 64) (fifteen : 15 < 2 ^ 64) → Executes program (state 4 15 fifteen)
jumps_over none ones fifteen =
    Proceeds (slot_of 0x26 1 (pos 1) (pos 14)) (state 2 15 fifteen) (state 4 15 fifteen)
    (Proceeds (slot_of 0x77 1 (pos 0) (pos 60)) (state 1 (2 ^ 64 - 1) ones) (state 2 15 fifteen)
    (Proceeds (slot_of 0xb7 1 (pos 0) (negsuc 0)) (state 0 0 none) (state 1 (2 ^ 64 - 1) ones) (Starts (state 0 0 none) refl refl) refl (Calculates false refl refl (all_but_r1 0 (2 ^ 64 - 1)) refl refl))
    refl (Calculates false refl refl (all_but_r1 (2 ^ 64 - 1) 15) refl refl))
    refl (Branches true true refl (λ h. absurd (omega arith)) (λ h. absurd (omega arith)) (λ h. absurd (omega arith)) refl refl (λ r. inr refl) refl)
