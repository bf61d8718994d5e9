-- What a conditional jump tests (RFC 9669, section 4.3), of operands that fit the width.
use Rattle.std.specs.Prelude.{ℕ, ℤ, Bool, not, Option, Some, None, bit_and, int_lt, int_le, nat_lt}
use Rattle.std.specs.Prelude.{nat_le, if◌then◌else◌, ◌==◌, ◌+◌, ◌-◌, ◌*◌, ◌/◌, ◌%◌, ◌^◌, pos}
use Rattle.std.specs.Prelude.{bit_or, bit_xor, int_rem}
use Rattle.std.specs.Int.{Width, cast_signed, w8, w16, w32, w64, cast_unsigned, int_shr}
use Rattle.std.specs.Int.{int_wrapping_div, swap_bytes}
use Rattle.std.specs.Ordering.{int_eq}
use mir.Val.{bits}
use Rattle.ebpf_reachability.specs.Operations.{jeq, jgt, jge, jset, jne, jsgt, jsge, jlt, jle, jslt}
use Rattle.ebpf_reachability.specs.Operations.{jsle, op_add, op_sub, op_mul, op_div, op_or, op_and}
use Rattle.ebpf_reachability.specs.Operations.{op_lsh, op_rsh, op_mod, op_xor, op_arsh}

-- the operands as unsigned numbers, and as signed ones
abbrev pub tested : ℕ → ℕ → ℕ → ℤ → ℤ → Option Bool
tested operation x y signed_x signed_y =
    if operation == jeq then Some (x == y)
    else (if operation == jgt then Some (nat_lt y x)
    else (if operation == jge then Some (nat_le y x)
    else (if operation == jset then Some (not (bit_and x y == 0))
    else (if operation == jne then Some (not (x == y))
    else (if operation == jsgt then Some (int_lt signed_y signed_x)
    else (if operation == jsge then Some (int_le signed_y signed_x)
    else (if operation == jlt then Some (nat_lt x y)
    else (if operation == jle then Some (nat_le x y)
    else (if operation == jslt then Some (int_lt signed_x signed_y)
    else (if operation == jsle then Some (int_le signed_x signed_y)
    else None))))))))))

abbrev pub compared : Width → ℕ → ℕ → ℕ → Option Bool
compared w operation x y = tested operation x y (cast_signed w x) (cast_signed w y)

-- ---- arithmetic on known numbers (RFC 9669, section 4.1), of operands that fit the width

-- division by zero gives 0
abbrev pub quotient : ℕ → ℕ → ℕ
quotient x y = if y == 0 then 0 else x / y

-- a remainder by zero leaves the number
abbrev pub remainder : ℕ → ℕ → ℕ
remainder x y = if y == 0 then x else x % y

-- quotient and remainder of signed numbers, rounded to zero; the least one by -1 gives itself, with
-- remainder 0
abbrev pub signed_quotient : Width → ℕ → ℕ → ℕ
signed_quotient w x y =
    if y == 0 then 0 else cast_unsigned w (int_wrapping_div w (cast_signed w x) (cast_signed w y))

abbrev pub signed_remainder : Width → ℕ → ℕ → ℕ
signed_remainder w x y =
    if y == 0 then x else cast_unsigned w (int_rem (cast_signed w x) (cast_signed w y))

-- A shift takes its lowest 5 or 6 bits.
abbrev pub shifted_left : Width → ℕ → ℕ → ℕ
shifted_left w x y = (x * 2 ^ (y % bits w)) % 2 ^ bits w

abbrev pub shifted_right : Width → ℕ → ℕ → ℕ
shifted_right w x y = x / 2 ^ (y % bits w)

abbrev pub shifted_signed : Width → ℕ → ℕ → ℕ
shifted_signed w x y = cast_unsigned w (int_shr (cast_signed w x) (y % bits w))

abbrev pub negated : Width → ℕ → ℕ
negated w x = (2 ^ bits w - x) % 2 ^ bits w

-- the operations with offset 0, but for NEG, MOV and END
abbrev pub operation_at_offset_0 : Width → ℕ → ℕ → ℕ → Option ℕ
operation_at_offset_0 w operation x y =
    if operation == op_add then Some ((x + y) % 2 ^ bits w)
    else (if operation == op_sub then Some ((x + (2 ^ bits w - y)) % 2 ^ bits w)
    else (if operation == op_mul then Some ((x * y) % 2 ^ bits w)
    else (if operation == op_div then Some (quotient x y)
    else (if operation == op_or then Some (bit_or x y)
    else (if operation == op_and then Some (bit_and x y)
    else (if operation == op_lsh then Some (shifted_left w x y)
    else (if operation == op_rsh then Some (shifted_right w x y)
    else (if operation == op_mod then Some (remainder x y)
    else (if operation == op_xor then Some (bit_xor x y)
    else (if operation == op_arsh then Some (shifted_signed w x y)
    else None))))))))))

-- those with offset 1: SDIV and SMOD
abbrev pub signed : Width → ℕ → ℕ → ℕ → Option ℕ
signed w operation x y =
    if operation == op_div then Some (signed_quotient w x y)
    else (if operation == op_mod then Some (signed_remainder w x y)
    else None)

unfoldable pub computed : Width → ℕ → ℤ → ℕ → ℕ → Option ℕ
computed w operation offset x y =
    if int_eq offset (pos 0) then operation_at_offset_0 w operation x y
    else (if int_eq offset (pos 1) then signed w operation x y
    else None)

-- the lower bits of a number, sign extended
abbrev pub extended : Width → Width → ℕ → ℕ
extended w from x = cast_unsigned w (cast_signed from (x % 2 ^ bits from))

-- MOVSX: how many bits are extended is its offset
abbrev pub extended_32 : ℤ → ℕ → Option ℕ
extended_32 offset x =
    if int_eq offset (pos 8) then Some (extended w32 w8 x)
    else (if int_eq offset (pos 16) then Some (extended w32 w16 x)
    else None)

abbrev pub extended_64 : ℤ → ℕ → Option ℕ
extended_64 offset x =
    if int_eq offset (pos 8) then Some (extended w64 w8 x)
    else (if int_eq offset (pos 16) then Some (extended w64 w16 x)
    else (if int_eq offset (pos 32) then Some (extended w64 w32 x)
    else None))

-- the lower bits of a number: END to little endian, on a machine that is little endian
abbrev pub truncated : ℤ → ℕ → Option ℕ
truncated size x =
    if int_eq size (pos 16) then Some (x % 2 ^ 16)
    else (if int_eq size (pos 32) then Some (x % 2 ^ 32)
    else (if int_eq size (pos 64) then Some x
    else None))

-- the lower bytes of a number, turned round: END to big endian there, and BSWAP
abbrev pub swapped : ℤ → ℕ → Option ℕ
swapped size x =
    if int_eq size (pos 16) then Some (swap_bytes w16 (x % 2 ^ 16))
    else (if int_eq size (pos 32) then Some (swap_bytes w32 (x % 2 ^ 32))
    else (if int_eq size (pos 64) then Some (swap_bytes w64 x)
    else None))
