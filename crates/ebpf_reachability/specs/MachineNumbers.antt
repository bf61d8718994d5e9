-- The results of arithmetic and comparisons on numbers, as RFC 9669 defines them. A result is an
-- exact integer, of which the lowest 32 or 64 bits are kept. `None` is an instruction that the RFC
-- doesn't define.
--
-- Example: 3 - 5 is -2, of which 64 bits are 2 ^ 64 - 2, and 32 bits 2 ^ 32 - 2.
use Rattle.std.specs.Prelude.{ℕ, ◌*◌, ◌/◌, ◌%◌, ◌^◌, ℤ, pos, ◌+ℤ◌, ◌-ℤ◌, ◌*ℤ◌, neg_ℤ, Bool, true}
use Rattle.std.specs.Prelude.{not, if◌then◌else◌, ◌==◌, nat_lt, nat_le, int_lt, int_le, Option}
use Rattle.std.specs.Prelude.{Some, None, bit_and, bit_or, bit_xor, int_div, int_rem, unsigned_abs}
use Rattle.std.specs.Option.{option_map}
use Rattle.std.specs.Int.{Width, w8, w16, w32, w64, cast_signed, int_rem_euclid, int_shr}
use Rattle.std.specs.Int.{swap_bytes}
use Rattle.std.specs.Ordering.{int_eq}
use mir.Val.{bits}
use Rattle.ebpf_parts.specs.declared.insn.bpf_insn.{bpf_insn}

-- an integer modulo 2 to the width (section 4.1: 'the 64-bit or 32-bit value will wrap')
abbrev pub wrapped : Width → ℤ → ℕ
wrapped w z = unsigned_abs (int_rem_euclid z (pos (2 ^ bits w)))

-- so many lowest bits of a number
abbrev pub lowest : Width → ℕ → ℕ
lowest w x = x % 2 ^ bits w

-- ---- arithmetic (section 4.1), of x in the destination and y in the source, both of that width;
-- `cast_signed` is the number with a sign that the bits are (two's complement)

-- with offset 0: a division by zero gives 0, a remainder by zero leaves x, a shift takes the lowest
-- 5 or 6 bits of y, and ARSH (0xc) rounds down
abbrev pub exact_unsigned : Width → ℕ → ℕ → ℕ → Option ℤ
exact_unsigned w operation x y =
    if operation == 0x0 then Some (pos x +ℤ pos y)
    else (if operation == 0x1 then Some (pos x -ℤ pos y)
    else (if operation == 0x2 then Some (pos x *ℤ pos y)
    else (if operation == 0x3 then Some (pos (if y == 0 then 0 else x / y))
    else (if operation == 0x4 then Some (pos (bit_or x y))
    else (if operation == 0x5 then Some (pos (bit_and x y))
    else (if operation == 0x6 then Some (pos (x * 2 ^ (y % bits w)))
    else (if operation == 0x7 then Some (pos (x / 2 ^ (y % bits w)))
    else (if operation == 0x9 then Some (pos (if y == 0 then x else x % y))
    else (if operation == 0xa then Some (pos (bit_xor x y))
    else (if operation == 0xc then Some (int_shr (cast_signed w x) (y % bits w))
    else None))))))))))

-- with offset 1, SDIV and SMOD: the quotient is rounded to zero, the remainder has the sign of x
abbrev pub exact_signed : Width → ℕ → ℕ → ℕ → Option ℤ
exact_signed w operation x y =
    if operation == 0x3
    then Some (if y == 0 then pos 0 else int_div (cast_signed w x) (cast_signed w y))
    else (if operation == 0x9
    then Some (if y == 0 then pos x else int_rem (cast_signed w x) (cast_signed w y))
    else None)

abbrev pub exact_of_two : Width → ℕ → ℤ → ℕ → ℕ → Option ℤ
exact_of_two w operation offset x y =
    if int_eq offset (pos 0) then exact_unsigned w operation x y
    else (if int_eq offset (pos 1) then exact_signed w operation x y
    else None)

-- MOV, and MOVSX of the lowest 8, 16 or 32 bits of a register
abbrev pub exact_move : Bool → Bool → ℤ → ℕ → Option ℤ
exact_move is_32 from_register offset y =
    if int_eq offset (pos 0) then Some (pos y)
    else (if not from_register then None
    else (if int_eq offset (pos 8) then Some (cast_signed w8 (lowest w8 y))
    else (if int_eq offset (pos 16) then Some (cast_signed w16 (lowest w16 y))
    else (if is_32 then None
    else (if int_eq offset (pos 32) then Some (cast_signed w32 (lowest w32 y))
    else None)))))

-- NEG, which has no source register
abbrev pub exact_negation : Bool → ℤ → ℕ → Option ℤ
exact_negation from_register offset x =
    if from_register then None
    else (if int_eq offset (pos 0) then Some (neg_ℤ (pos x)) else None)

-- ---- byte swaps (section 4.2): the lowest 16, 32 or 64 bits, their bytes as they are or reversed

abbrev pub ordered : Bool → Width → ℕ → ℕ
ordered swaps w x = if swaps then swap_bytes w (lowest w x) else lowest w x

abbrev pub in_byte_order : Bool → ℤ → ℕ → Option ℕ
in_byte_order swaps size x =
    if int_eq size (pos 16) then Some (ordered swaps w16 x)
    else (if int_eq size (pos 32) then Some (ordered swaps w32 x)
    else (if int_eq size (pos 64) then Some (ordered swaps w64 x)
    else None))

-- The machine is little endian: of class ALU to little endian leaves the bytes, and to big endian
-- (the bit of a source register) reverses them. Class ALU64 always reverses them, without that bit.
abbrev pub byte_swap : Bool → Bool → ℤ → ℕ → Option ℕ
byte_swap is_32 from_register size x =
    if is_32 then in_byte_order from_register size x
    else (if from_register then None else in_byte_order true size x)

-- ---- what an instruction of class ALU (32 bits) or ALU64 leaves in its destination

abbrev pub width_of : Bool → Width
width_of is_32 = if is_32 then w32 else w64

-- the bit of a code that says that the source is a register (section 4)
abbrev pub from_register : bpf_insn → Bool
from_register slot = slot.code / 8 % 2 == 1

abbrev pub kept : Width → Option ℤ → Option ℕ
kept w z = option_map (wrapped w) z

abbrev pub result_of : Bool → bpf_insn → ℕ → ℕ → Option ℕ
result_of is_32 slot x y =
    if slot.code / 16 == 0xb
    then kept (width_of is_32) (exact_move is_32 (from_register slot) slot.off y)
    else (if slot.code / 16 == 0x8
    then kept (width_of is_32)
    (exact_negation (from_register slot) slot.off (lowest (width_of is_32) x))
    else (if slot.code / 16 == 0xd then byte_swap is_32 (from_register slot) slot.imm x
    else kept (width_of is_32)
    (exact_of_two (width_of is_32) (slot.code / 16) slot.off (lowest (width_of is_32) x)
    (lowest (width_of is_32) y))))

-- ---- what a conditional jump tests (section 4.3): the lowest 32 bits (class JMP32) or all 64

abbrev pub holds : Width → ℕ → ℕ → ℕ → Option Bool
holds w operation x y =
    if operation == 0x1 then Some (x == y)
    else (if operation == 0x2 then Some (nat_lt y x)
    else (if operation == 0x3 then Some (nat_le y x)
    else (if operation == 0x4 then Some (not (bit_and x y == 0))
    else (if operation == 0x5 then Some (not (x == y))
    else (if operation == 0x6 then Some (int_lt (cast_signed w y) (cast_signed w x))
    else (if operation == 0x7 then Some (int_le (cast_signed w y) (cast_signed w x))
    else (if operation == 0xa then Some (nat_lt x y)
    else (if operation == 0xb then Some (nat_le x y)
    else (if operation == 0xc then Some (int_lt (cast_signed w x) (cast_signed w y))
    else (if operation == 0xd then Some (int_le (cast_signed w x) (cast_signed w y))
    else None))))))))))

abbrev pub condition_of : Bool → bpf_insn → ℕ → ℕ → Option Bool
condition_of is_32 slot x y =
    holds (width_of is_32) (slot.code / 16) (lowest (width_of is_32) x) (lowest (width_of is_32) y)
