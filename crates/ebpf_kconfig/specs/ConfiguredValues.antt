-- The value of an extern, read from the text of a kernel's configuration (libbpf 1.5, libbpf.c:
-- bpf_object__process_kconfig_line, set_kcfg_value_tri, set_kcfg_value_str, parse_u64,
-- is_kcfg_value_in_range, set_kcfg_value_num).
use Rattle.std.specs.Prelude.{ℕ, min, ◌+◌, ◌-◌, ◌*◌, ◌/◌, ◌%◌, ◌^◌, nat_eq, nat_lt, ◌==◌, ◌&&◌}
use Rattle.std.specs.Prelude.{◌||◌, Bool, true, List, [], ◌∷◌, ◌++◌, codes, length, take, drop}
use Rattle.std.specs.Prelude.{replicate, slice_index, Option, Some, None, Result, Ok, Err}
use Rattle.std.specs.Prelude.{if◌then◌else◌}
use Rattle.std.specs.Char.{digit_value}
use Rattle.std.specs.Int.{w64, to_le_bytes, to_be_bytes}
use Rattle.std.specs.List.{slice_split, starts_with}
use Rattle.std.specs.Option.{option_and_then}
use Rattle.ebpf_base.specs.Faults.{first_some, if_ok}
use Rattle.ebpf_base.specs.declared.endianness.Endianness.{Endianness}
use Rattle.ebpf_base.specs.declared.endianness.Endianness.TheVariants.{Little, Big}
use Rattle.ebpf_kconfig.specs.declared.error.KconfigError.{KconfigError}
use Rattle.ebpf_kconfig.specs.declared.error.KconfigError.TheVariants.{UnsuitedValue}
use Rattle.ebpf_kconfig.specs.declared.error.KconfigError.TheVariants.{ValueOutOfRange, OutOfMemory}
use Rattle.ebpf_kconfig.specs.declared.externs.KconfigExtern.{KconfigExtern}
use Rattle.ebpf_kconfig.specs.declared.kconfig_type.KconfigType.{KconfigType}
use Rattle.ebpf_kconfig.specs.declared.kconfig_type.KconfigType.TheVariants as kconfig_types
use Rattle.ebpf_kconfig.specs.declared.settings.ValueFault.{ValueFault}
use Rattle.ebpf_kconfig.specs.declared.settings.ValueFault.TheVariants as faults
use Rattle.ebpf_kconfig.specs.declared.settings.ValueFault.TheVariants.{Unsuited, OutOfRange}

-- ---- numbers as text (C's strtoull at base 0, without white space and plus)

-- the number that digits write behind those of n, where 64 bits hold it
abbrev pub read_digits : ℕ → ℕ → List ℕ → Result ℕ ValueFault
read_digits radix n [] = Ok n
read_digits radix n (c ∷ cs) =
    if nat_lt (digit_value c) radix
    then (if nat_lt (n * radix + digit_value c) (2 ^ 64)
    then read_digits radix (n * radix + digit_value c) cs
    else Err OutOfRange)
    else Err Unsuited

-- one digit or more
unfoldable pub digits_number : ℕ → List ℕ → Result ℕ ValueFault
digits_number radix [] = Err Unsuited
digits_number radix (c ∷ cs) = read_digits radix 0 (c ∷ cs)

abbrev pub has_hexadecimal_prefix : List ℕ → Bool
has_hexadecimal_prefix text =
    starts_with nat_eq text (codes "0x") || starts_with nat_eq text (codes "0X")

-- hexadecimal behind `0x`, octal behind `0`, else decimal
abbrev pub unsigned_number : List ℕ → Result ℕ ValueFault
unsigned_number text =
    if has_hexadecimal_prefix text then digits_number 16 (drop 2 text)
    else if starts_with nat_eq text (codes "0") then digits_number 8 text
    else digits_number 10 text

-- the 64 bits of a number's negative
abbrev pub negative_bits : ℕ → ℕ
negative_bits n = if n == 0 then 0 else 2 ^ 64 - n

abbrev pub text_number : List ℕ → Result ℕ ValueFault
text_number text =
    if starts_with nat_eq text (codes "-")
    then if_ok (unsigned_number (drop 1 text)) (λ n. Ok (negative_bits n))
    else unsigned_number text

-- ---- numbers as values

-- the low bytes of a number, in the order of memory
abbrev pub number_bytes : Endianness → ℕ → ℕ → List ℕ
number_bytes Little size n = take (min size 8) (to_le_bytes w64 n)
number_bytes Big size n = drop (8 - min size 8) (to_be_bytes w64 n)

-- the number of values that fewer than 8 bytes hold
abbrev pub number_count : ℕ → ℕ
number_count size = if size == 1 then 2 ^ 8 else if size == 2 then 2 ^ 16 else 2 ^ 32

-- whether so many bytes hold the number of 64 bits, read as signed or as unsigned
abbrev pub is_in_range : ℕ → Bool → ℕ → Bool
is_in_range size signed n =
    if size == 8 then true
    else if signed then nat_lt ((n + number_count size / 2) % 2 ^ 64) (number_count size)
    else nat_lt n (number_count size)

abbrev pub ranged_value : Endianness → ℕ → Bool → ℕ → Result (List ℕ) ValueFault
ranged_value order size signed n =
    if is_in_range size signed n then Ok (number_bytes order size n) else Err OutOfRange

-- the value of a number for an extern that is an integer
unfoldable pub integer_value : Endianness → KconfigType → ℕ → Result (List ℕ) ValueFault
integer_value order (kconfig_types.Char signed) n = ranged_value order 1 signed n
integer_value order (kconfig_types.Integer size signed) n = ranged_value order size signed n
integer_value order kind n = Err Unsuited

-- the value of a loader's number for an extern that is an integer or a bool
unfoldable pub loader_value : Endianness → KconfigType → ℕ → Result (List ℕ) ValueFault
loader_value order kconfig_types.Bool n = if nat_lt n 2 then Ok (n ∷ []) else Err OutOfRange
loader_value order kind n = integer_value order kind n

-- ---- letters and strings

-- `n`, `y` and `m`
abbrev pub is_letter : ℕ → Bool
is_letter c = c == 110 || c == 121 || c == 109

abbrev pub tristate_number : ℕ → ℕ
tristate_number c = if c == 121 then 1 else if c == 109 then 2 else 0

unfoldable pub letter_value : Endianness → KconfigType → ℕ → Result (List ℕ) ValueFault
letter_value order kconfig_types.Bool c =
    if c == 109 then Err Unsuited else Ok (tristate_number c ∷ [])
letter_value order (kconfig_types.Tristate size) c =
    Ok (number_bytes order size (tristate_number c))
letter_value order (kconfig_types.Char signed) c = Ok (c ∷ [])
letter_value order kind c = Err Unsuited

-- a text that begins with a double quote ends with one
abbrev pub is_quoted : List ℕ → Bool
is_quoted text = nat_lt 1 (length text) && slice_index text (length text - 1) == 34

abbrev pub unquoted : List ℕ → List ℕ
unquoted text = take (length text - 2) (drop 1 text)

-- a text in so many bytes: as much of it as leaves room for a zero byte, then zeros
abbrev pub cut_string : ℕ → List ℕ → List ℕ
cut_string len text = take (len - 1) text ++ replicate (len - length (take (len - 1) text)) 0

unfoldable pub string_value : KconfigType → List ℕ → Result (List ℕ) ValueFault
string_value (kconfig_types.CharArray len) text =
    if is_quoted text then Ok (cut_string len (unquoted text)) else Err Unsuited
string_value kind text = Err Unsuited

-- ---- one value

-- the value of a text for an extern of a type
unfoldable pub text_value : Endianness → KconfigType → List ℕ → Result (List ℕ) ValueFault
text_value order kind [] = Err Unsuited
text_value order kind (c ∷ cs) =
    if is_letter c then letter_value order kind c
    else if c == 34 then string_value kind (c ∷ cs)
    else if_ok (text_number (c ∷ cs)) (integer_value order kind)

-- ---- the configuration

-- the rest of a text behind a prefix
abbrev pub behind : List ℕ → List ℕ → Option (List ℕ)
behind prefix bytes =
    if starts_with nat_eq bytes prefix then Some (drop (length prefix) bytes) else None

-- the text that a line gives a name: the rest behind `NAME=`
abbrev pub given_in_line : List ℕ → List ℕ → Option (List ℕ)
given_in_line name line = option_and_then (behind (codes "=")) (behind name line)

-- the text of the first line that has the name
abbrev pub setting : List ℕ → List ℕ → Option (List ℕ)
setting config name = first_some (given_in_line name) (slice_split (λ b. b == 10) config)

abbrev pub with_name : {X : Type 0} → List ℕ → Result X ValueFault → Result X KconfigError
with_name name (Ok value) = Ok value
with_name name (Err Unsuited) = Err (UnsuitedValue name)
with_name name (Err OutOfRange) = Err (ValueOutOfRange name)
with_name name (Err faults.OutOfMemory) = Err OutOfMemory

abbrev pub set_value : Endianness → KconfigExtern → Option (List ℕ)
    → Result (Option (List ℕ)) KconfigError
set_value order e None = Ok None
set_value order e (Some text) =
    if_ok (with_name e.name (text_value order e.kind text)) (λ value. Ok (Some value))

-- the value of an extern; only names that begin with `CONFIG_` have one
unfoldable pub configured_value : Endianness → List ℕ → KconfigExtern
    → Result (Option (List ℕ)) KconfigError
configured_value order config e =
    if starts_with nat_eq e.name (codes "CONFIG_")
    then set_value order e (setting config e.name)
    else Ok None
