-- The type information of some bytes, or their first fault: `.BTF` is a header and two parts, the
-- types and the strings (the kernel's Documentation/bpf/btf.rst, 2. "BTF Type and String Encoding";
-- struct btf_header).
use Rattle.std.specs.Prelude.{◌≡◌, ℕ, zero, suc, ◌+◌, ◌∷◌, ◌++◌, [], List, length, Option, Some}
use Rattle.std.specs.Prelude.{None, Result, Ok, Err, option_map, nat_lt, not, ◌==◌, if◌then◌else◌}
use Rattle.std.specs.Prelude.{slice_range}
use Rattle.ebpf_base.specs.Faults.{first_of}
use Rattle.ebpf_base.specs.declared.endianness.Endianness.{Endianness}
use Rattle.ebpf_btf.specs.declared.error.BtfError.{BtfError}
use Rattle.ebpf_btf.specs.declared.error.BtfError.TheVariants.{InvalidHeader, InvalidTypeInfo}
use Rattle.ebpf_btf.specs.declared.kind.BtfKind.{BtfKind}
use Rattle.ebpf_btf.specs.declared.types.BtfType.{BtfType}
use Rattle.ebpf_btf.specs.declared.types.BtfType.TheVariants.{Unknown}
use Rattle.ebpf_btf.specs.Format.{AreTypesAt, word, info_at, info_kind, spelled, end_of}
use Rattle.ebpf_base.specs.Numbers.{number_at}
use Rattle.ebpf_btf.specs.Next.{if_some}
use Rattle.ebpf_btf.specs.TypeInfo.{TypeInfo}

-- ---- the header; offsets count from its end

unfoldable pub magic : Endianness → List ℕ → ℕ
magic o bytes = number_at o 2 bytes 0

unfoldable pub header_length : Endianness → List ℕ → ℕ
header_length o bytes = word o bytes 4

-- the start and end of the types
unfoldable pub types_start : Endianness → List ℕ → ℕ
types_start o bytes = header_length o bytes + word o bytes 8

unfoldable pub types_end : Endianness → List ℕ → ℕ
types_end o bytes = types_start o bytes + word o bytes 12

-- the start and end of the strings
unfoldable pub strings_start : Endianness → List ℕ → ℕ
strings_start o bytes = header_length o bytes + word o bytes 16

unfoldable pub strings_end : Endianness → List ℕ → ℕ
strings_end o bytes = strings_start o bytes + word o bytes 20

unfoldable pub header_fault : Endianness → List ℕ → Option BtfError
header_fault o bytes = first_of (
    (nat_lt (length bytes) 24, InvalidHeader)
    ∷ (not (magic o bytes == 0xEB9F), InvalidHeader)
    ∷ (nat_lt (header_length o bytes) 24, InvalidHeader)
    ∷ (nat_lt (length bytes) (types_end o bytes), InvalidHeader)
    ∷ (nat_lt (length bytes) (strings_end o bytes), InvalidHeader)
    ∷ [])

-- the strings, each byte of them
unfoldable pub strings_in : Endianness → List ℕ → List ℕ
strings_in o bytes = slice_range bytes (strings_start o bytes) (strings_end o bytes)

-- the types, each byte of them
unfoldable pub types_part : Endianness → List ℕ → List ℕ
types_part o bytes = slice_range bytes (types_start o bytes) (types_end o bytes)

-- ---- the contents of bytes

-- The header is sound, and its two parts are some types after void, and the strings.
pub record Spells (o : Endianness) (bytes : List ℕ) (info : TypeInfo) : Type 0 where
  pub header : header_fault o bytes ≡ None
  pub types : (ts : List BtfType)
      × (info.types ≡ Unknown ∷ ts)
      × AreTypesAt o (types_part o bytes) 0 ts
  pub strings : info.strings ≡ strings_in o bytes

-- ---- reading

-- the type at an offset, of a kind that is known, and the offset after it, where that is not past
-- the end
abbrev pub up_to : Endianness → List ℕ → ℕ → BtfKind → Option (BtfType × ℕ)
up_to o bytes offset kind =
    if nat_lt (length bytes) (end_of o bytes offset kind)
    then None
    else Some (spelled o bytes offset kind, end_of o bytes offset kind)

-- the first type from an offset on, and the offset after it; none where it is cut or of no kind
unfoldable pub type_before : Endianness → List ℕ → ℕ → Option (BtfType × ℕ)
type_before o bytes offset =
    if nat_lt (length bytes) (offset + 12) then None
    else if_some (info_kind (info_at o bytes offset)) (λ kind. up_to o bytes offset kind) None

-- types that follow others
abbrev pub prepend_types : List BtfType → Option (List BtfType) → Option (List BtfType)
prepend_types front types = option_map (λ ts. front ++ ts) types

-- All types from an offset on, of which there are at most `left`.
unfoldable pub types_from : ℕ → Endianness → List ℕ → ℕ → Option (List BtfType)
types_from zero o bytes offset = if offset == length bytes then Some [] else None
types_from (suc left) o bytes offset =
    if offset == length bytes then Some []
    else if_some (type_before o bytes offset)
    (λ found. prepend_types (found.0 ∷ []) (types_from left o bytes found.1)) None

-- a part has no more types than bytes
unfoldable pub types_of : Endianness → List ℕ → Option (List BtfType)
types_of o part = types_from (length part) o part 0

-- with void before the types, and the strings
abbrev pub with_strings : Endianness → List ℕ → Option (List BtfType) → Result TypeInfo BtfError
with_strings o bytes None = Err InvalidTypeInfo
with_strings o bytes (Some ts) = Ok (record { types = ts; strings = strings_in o bytes })

-- the type information of some bytes, or their first fault
unfoldable pub type_info_of : Endianness → List ℕ → Result TypeInfo BtfError
type_info_of o bytes =
    if_some (header_fault o bytes) (λ e. Err e)
    (with_strings o bytes (prepend_types (Unknown ∷ []) (types_of o (types_part o bytes))))
