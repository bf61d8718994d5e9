-- What is known of the registers where a slot is reached (RFC 9669, section 3.1: a program has r0
-- to r10).
use Rattle.std.specs.Prelude.{◌≡◌, ℕ, Option, Some, None, length, replicate, slice_index_or}
use Rattle.std.specs.Prelude.{slice_set, ◌+◌, ◌*◌, ◌/◌, ◌%◌, ◌^◌, pos, Bool, List, slice_get}
use Rattle.std.specs.Prelude.{if◌then◌else◌, ◌==◌}
use Rattle.std.specs.Option.{option_and_then, option_map}
use Rattle.std.specs.Int.{w32, w64, cast_unsigned}
use Rattle.std.specs.Ordering.{int_eq}
use Rattle.ebpf_parts.specs.Slots.{class_alu, class_alu64, class_jmp32, class_ld, class_ldx}
use Rattle.ebpf_parts.specs.Slots.{class_st, class_stx, dst_of, is_poisoned, src_of}
use Rattle.ebpf_parts.specs.declared.insn.bpf_insn.{bpf_insn}
use Rattle.ebpf_reachability.specs.Operations.{op_end, op_mov, op_neg}
use Rattle.ebpf_reachability.specs.Arithmetic.{computed, negated, extended_32, extended_64}
use Rattle.ebpf_reachability.specs.Arithmetic.{truncated, swapped, compared}
use Rattle.ebpf_reachability.specs.declared.registers.Registers.{Registers}

-- the number that a register is known to hold; none is known of a register that there isn't
abbrev pub known : Registers → ℕ → Option ℕ
known a r = slice_index_or a.numbers r None

-- nothing known of any
abbrev pub unknown : Registers
unknown = record { numbers = replicate 11 None }

-- the same but for one register
abbrev pub learned : Registers → ℕ → Option ℕ → Registers
learned a r n = record { numbers = slice_set a.numbers r n }

abbrev pub forgotten : Registers → ℕ → Registers
forgotten a r = learned a r None

-- The same behind a call: r0 has its result, r1 to r5 are the caller's to save (the kernel's
-- Documentation/bpf/standardization/abi.rst).
abbrev pub called : Registers → Registers
called a = forgotten (forgotten (forgotten (forgotten (forgotten (forgotten a 0) 1) 2) 3) 4) 5

-- The order: a is below b where a knows each number that b knows. So a known number is below
-- nothing known.
pub record IsBelow (a b : Registers) : Type 0 where
  pub as_many : length a.numbers ≡ length b.numbers
  pub numbers : (r n : ℕ) → known b r ≡ Some n → known a r ≡ Some n

-- ---- what a slot does to the registers (RFC 9669, sections 4 and 5)

-- A code is a class in the low three bits, whether the source is a register, and an operation in
-- the high four.
abbrev pub class : bpf_insn → ℕ
class slot = slot.code % 8

abbrev pub takes_register : bpf_insn → Bool
takes_register slot = slot.code / 8 % 2 == 1

abbrev pub operation : bpf_insn → ℕ
operation slot = slot.code / 16

-- the second operand: a register's number, or the immediate, sign extended
abbrev pub source : bpf_insn → Registers → Option ℕ
source slot a =
    if takes_register slot then known a (src_of slot) else Some (cast_unsigned w64 slot.imm)

abbrev pub destination : bpf_insn → Registers → Option ℕ
destination slot a = known a (dst_of slot)

-- what two operands give: of class 4 the lower 32 bits, of which the upper ones of the result are
-- zero
abbrev pub calculated : bpf_insn → ℕ → ℕ → Option ℕ
calculated slot x y =
    if class slot == class_alu then computed w32 (operation slot) slot.off (x % 2 ^ 32) (y % 2 ^ 32)
    else computed w64 (operation slot) slot.off x y

-- MOV, and MOVSX, which takes a register
abbrev pub moved : bpf_insn → ℕ → Option ℕ
moved slot y =
    if int_eq slot.off (pos 0) then Some (if class slot == class_alu then y % 2 ^ 32 else y)
    else (if takes_register slot then (if class slot == class_alu then extended_32 slot.off y else
    extended_64 slot.off y)
    else None)

-- NEG, which takes no register
abbrev pub negation : bpf_insn → ℕ → Option ℕ
negation slot x =
    if takes_register slot then None
    else (if int_eq slot.off (pos 0) then Some (if class slot == class_alu then negated w32 (x % 2
    ^ 32) else negated w64 x)
    else None)

-- END of class 4, to little endian or, with the bit of a register, to big endian; of class 7 always
-- turned round
abbrev pub byte_swapped : bpf_insn → ℕ → Option ℕ
byte_swapped slot x =
    if class slot == class_alu
    then (if takes_register slot then swapped slot.imm x else truncated slot.imm x)
    else (if takes_register slot then None else swapped slot.imm x)

-- the operations of two operands, where both are known
abbrev pub binary_result : bpf_insn → Registers → Option ℕ
binary_result slot a =
    option_and_then (λ x. option_and_then (λ y. calculated slot x y) (source slot a))
    (destination slot a)

-- what arithmetic leaves in its destination; nothing is known where it is no valid instruction
abbrev pub arithmetic : bpf_insn → Registers → Option ℕ
arithmetic slot a =
    if operation slot == op_mov then option_and_then (moved slot) (source slot a)
    else (if operation slot == op_neg then option_and_then (negation slot) (destination slot a)
    else (if operation slot == op_end then option_and_then (byte_swapped slot) (destination slot a)
    else binary_result slot a))

-- an atomic operation (mode 6 of class 3)
abbrev pub is_atomic : bpf_insn → Bool
is_atomic slot = slot.code / 32 == 6

-- an atomic operation may load the source, r0, or (Linux's load-acquire) the destination; a plain
-- store writes none
abbrev pub stored : bpf_insn → Registers → Registers
stored slot a =
    if is_atomic slot then forgotten (forgotten (forgotten a (dst_of slot)) (src_of slot)) 0 else a

-- The registers behind a slot that goes on to the next one:
-- nothing is known behind a poisoned one, which stands for any other;
-- packet access (class 0) loads r0 and forgets r1 to r5; a load (1) has a number from memory;
-- a store (2 and 3) writes none, but for atomic operations;
-- arithmetic (4 and 7) writes its destination; what is left of the classes of jumps (5 and 6) is a
-- call.
abbrev pub after : bpf_insn → Registers → Registers
after slot a =
    if is_poisoned slot then unknown
    else (if class slot == class_ld then called (forgotten a (dst_of slot))
    else (if class slot == class_ldx then forgotten a (dst_of slot)
    else (if class slot == class_st then a
    else (if class slot == class_stx then stored slot a
    else (if class slot == class_alu then learned a (dst_of slot) (arithmetic slot a)
    else (if class slot == class_alu64 then learned a (dst_of slot) (arithmetic slot a)
    else called a))))))

-- the number that a wide load holds: the lower half in the first slot, the upper half in the second
abbrev pub wide : bpf_insn → bpf_insn → ℕ
wide slot second = cast_unsigned w32 slot.imm + 2 ^ 32 * cast_unsigned w32 second.imm

-- what a wide load leaves in its destination: a plain number where the source field is 0, else an
-- address
abbrev pub wide_load_result : List bpf_insn → ℕ → bpf_insn → Option ℕ
wide_load_result slots i slot =
    if src_of slot == 0 then option_map (wide slot) (slice_get slots (i + 1)) else None

-- how a conditional jump decides, where both operands are known
abbrev pub decided : bpf_insn → Registers → Option Bool
decided slot a =
    option_and_then (λ x. option_and_then (λ y.
    (if class slot == class_jmp32 then compared w32 (operation slot) (x % 2 ^ 32) (y % 2 ^ 32) else
    compared w64 (operation slot) x y))
    (source slot a)) (destination slot a)
