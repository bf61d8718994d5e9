-- The bytes of types (the kernel's Documentation/bpf/btf.rst, 2.2 "Type Encoding").
-- A type is three words, that is numbers of four bytes: the offset of its name, its info, its size
-- or another type. Then the words of its kind follow.
use Rattle.std.specs.Prelude.{◌≡◌, ℕ, ◌+◌, ◌*◌, ◌/◌, ◌%◌, ◌^◌, ◌≤◌, Bool, List, [], ◌∷◌, length}
use Rattle.std.specs.Prelude.{Option, Some, None, ◌==◌, if◌then◌else◌, ◌<◌}
use Rattle.ebpf_base.specs.declared.endianness.Endianness.{Endianness}
use Rattle.ebpf_btf.specs.declared.kind.BtfKind.{BtfKind}
use Rattle.ebpf_btf.specs.declared.kind.BtfKind.TheVariants as kinds
use Rattle.ebpf_btf.specs.declared.members.BtfMember.{BtfMember}
use Rattle.ebpf_btf.specs.declared.members.BtfEnum.{BtfEnum}
use Rattle.ebpf_btf.specs.declared.members.BtfEnum64.{BtfEnum64}
use Rattle.ebpf_btf.specs.declared.members.BtfParam.{BtfParam}
use Rattle.ebpf_btf.specs.declared.members.DataSecEntry.{DataSecEntry}
use Rattle.ebpf_btf.specs.declared.types.BtfType.{BtfType}
use Rattle.ebpf_btf.specs.declared.types.BtfType.TheVariants.{Unknown, Fwd, Const, Volatile}
use Rattle.ebpf_btf.specs.declared.types.BtfType.TheVariants.{Restrict, Ptr, Typedef, Func, Int}
use Rattle.ebpf_btf.specs.declared.types.BtfType.TheVariants.{Float, Enum, Array, Struct, Union}
use Rattle.ebpf_btf.specs.declared.types.BtfType.TheVariants.{FuncProto, Var, DataSec, DeclTag}
use Rattle.ebpf_btf.specs.declared.types.BtfType.TheVariants.{TypeTag, Enum64}
use Rattle.ebpf_base.specs.Numbers.{number_at}
use Rattle.ebpf_btf.specs.Items.{items_at}
use Rattle.ebpf_btf.specs.Types.{kind_of, kind_number}

abbrev pub word : Endianness → List ℕ → ℕ → ℕ
word order bytes offset = number_at order 4 bytes offset

-- ---- the info word

-- vlen: the number of members, variants, parameters or entries of the type
unfoldable pub info_vlen : ℕ → ℕ
info_vlen info = info % 2 ^ 16

unfoldable pub info_kind_flag : ℕ → Bool
info_kind_flag info = info / 2 ^ 31 == 1

abbrev pub info_kind_number : ℕ → ℕ
info_kind_number info = info / 2 ^ 24 % 2 ^ 5

-- the kind; there is none with the number 0, or past 19
unfoldable pub info_kind : ℕ → Option BtfKind
info_kind info =
    if info_kind_number info == 1 then Some kinds.Int else
    (if info_kind_number info == 2 then Some kinds.Ptr else
    (if info_kind_number info == 3 then Some kinds.Array else
    (if info_kind_number info == 4 then Some kinds.Struct else
    (if info_kind_number info == 5 then Some kinds.Union else
    (if info_kind_number info == 6 then Some kinds.Enum else
    (if info_kind_number info == 7 then Some kinds.Fwd else
    (if info_kind_number info == 8 then Some kinds.Typedef else
    (if info_kind_number info == 9 then Some kinds.Volatile else
    (if info_kind_number info == 10 then Some kinds.Const else
    (if info_kind_number info == 11 then Some kinds.Restrict else
    (if info_kind_number info == 12 then Some kinds.Func else
    (if info_kind_number info == 13 then Some kinds.FuncProto else
    (if info_kind_number info == 14 then Some kinds.Var else
    (if info_kind_number info == 15 then Some kinds.DataSec else
    (if info_kind_number info == 16 then Some kinds.Float else
    (if info_kind_number info == 17 then Some kinds.DeclTag else
    (if info_kind_number info == 18 then Some kinds.TypeTag else
    (if info_kind_number info == 19 then Some kinds.Enum64 else None))))))))))))))))))

-- ---- the words of a kind

-- how many words follow the first three of a type with a kind and a count
unfoldable pub further_words : BtfKind → ℕ → ℕ
further_words kinds.Int n = 1
further_words kinds.Array n = 3
further_words kinds.Struct n = 3 * n
further_words kinds.Union n = 3 * n
further_words kinds.Enum n = 2 * n
further_words kinds.FuncProto n = 2 * n
further_words kinds.Var n = 1
further_words kinds.DataSec n = 3 * n
further_words kinds.DeclTag n = 1
further_words kinds.Enum64 n = 3 * n
further_words _ n = 0

unfoldable pub member_at : Endianness → List ℕ → ℕ → BtfMember
member_at order bytes offset = record {
  name_offset = word order bytes offset;
  btf_type = word order bytes (offset + 4);
  offset = word order bytes (offset + 8);
}

unfoldable pub enum_at : Endianness → List ℕ → ℕ → BtfEnum
enum_at order bytes offset = record {
  name_offset = word order bytes offset;
  value = word order bytes (offset + 4);
}

unfoldable pub enum64_at : Endianness → List ℕ → ℕ → BtfEnum64
enum64_at order bytes offset = record {
  name_offset = word order bytes offset;
  value_low = word order bytes (offset + 4);
  value_high = word order bytes (offset + 8);
}

unfoldable pub param_at : Endianness → List ℕ → ℕ → BtfParam
param_at order bytes offset = record {
  name_offset = word order bytes offset;
  btf_type = word order bytes (offset + 4);
}

unfoldable pub entry_at : Endianness → List ℕ → ℕ → DataSecEntry
entry_at order bytes offset = record {
  btf_type = word order bytes offset;
  offset = word order bytes (offset + 4);
  size = word order bytes (offset + 8);
}

-- ---- a type

-- the info word of the type at an offset
abbrev pub info_at : Endianness → List ℕ → ℕ → ℕ
info_at o bytes offset = word o bytes (offset + 4)

abbrev pub vlen_at : Endianness → List ℕ → ℕ → ℕ
vlen_at o bytes offset = info_vlen (info_at o bytes offset)

abbrev pub kind_flag_at : Endianness → List ℕ → ℕ → Bool
kind_flag_at o bytes offset = info_kind_flag (info_at o bytes offset)

-- the type of a kind at an offset
unfoldable pub spelled : Endianness → List ℕ → ℕ → BtfKind → BtfType
spelled o bytes p kinds.Unknown = Unknown
spelled o bytes p kinds.Int = Int (word o bytes p) (word o bytes (p + 8)) (word o bytes (p + 12))
spelled o bytes p kinds.Ptr = Ptr (word o bytes p) (word o bytes (p + 8))
spelled o bytes p kinds.Array =
    Array (word o bytes p) (word o bytes (p + 12)) (word o bytes (p + 16)) (word o bytes (p + 20))
spelled o bytes p kinds.Struct =
    Struct (word o bytes p) (word o bytes (p + 8)) (kind_flag_at o bytes p)
    (items_at (member_at o bytes) 12 (p + 12) (vlen_at o bytes p))
spelled o bytes p kinds.Union =
    Union (word o bytes p) (word o bytes (p + 8)) (kind_flag_at o bytes p)
    (items_at (member_at o bytes) 12 (p + 12) (vlen_at o bytes p)) None
spelled o bytes p kinds.Enum =
    Enum (word o bytes p) (word o bytes (p + 8)) (kind_flag_at o bytes p)
    (items_at (enum_at o bytes) 8 (p + 12) (vlen_at o bytes p))
spelled o bytes p kinds.Fwd = Fwd (word o bytes p) (kind_flag_at o bytes p)
spelled o bytes p kinds.Typedef = Typedef (word o bytes p) (word o bytes (p + 8))
spelled o bytes p kinds.Volatile = Volatile (word o bytes p) (word o bytes (p + 8))
spelled o bytes p kinds.Const = Const (word o bytes p) (word o bytes (p + 8))
spelled o bytes p kinds.Restrict = Restrict (word o bytes p) (word o bytes (p + 8))
spelled o bytes p kinds.Func = Func (word o bytes p) (word o bytes (p + 8))
spelled o bytes p kinds.FuncProto =
    FuncProto (word o bytes p) (word o bytes (p + 8))
    (items_at (param_at o bytes) 8 (p + 12) (vlen_at o bytes p))
spelled o bytes p kinds.Var = Var (word o bytes p) (word o bytes (p + 8)) (word o bytes (p + 12))
spelled o bytes p kinds.DataSec =
    DataSec (word o bytes p) (word o bytes (p + 8))
    (items_at (entry_at o bytes) 12 (p + 12) (vlen_at o bytes p))
spelled o bytes p kinds.Float = Float (word o bytes p) (word o bytes (p + 8))
spelled o bytes p kinds.DeclTag =
    DeclTag (word o bytes p) (word o bytes (p + 8)) (word o bytes (p + 12))
spelled o bytes p kinds.TypeTag = TypeTag (word o bytes p) (word o bytes (p + 8))
spelled o bytes p kinds.Enum64 =
    Enum64 (word o bytes p) (word o bytes (p + 8)) (kind_flag_at o bytes p)
    (items_at (enum64_at o bytes) 12 (p + 12) (vlen_at o bytes p))

-- where a type of a kind that begins at an offset ends
abbrev pub end_of : Endianness → List ℕ → ℕ → BtfKind → ℕ
end_of o bytes offset kind = offset + 12 + 4 * further_words kind (vlen_at o bytes offset)

-- the bytes from an offset up to an end are those of a type
pub record IsTypeAt (o : Endianness) (bytes : List ℕ) (offset end : ℕ) (t : BtfType) : Type 0 where
  pub kind : info_kind (info_at o bytes offset) ≡ Some (kind_of t)
  pub words : t ≡ spelled o bytes offset (kind_of t)
  pub ends : end ≡ end_of o bytes offset (kind_of t)

-- the bytes from an offset on are those of some types, one after the other
abbrev pub AreTypesAt : Endianness → List ℕ → ℕ → List BtfType → Type 0
AreTypesAt o bytes offset [] = offset ≡ length bytes
AreTypesAt o bytes offset (t ∷ ts) =
    (next : ℕ) × IsTypeAt o bytes offset next t × (next ≤ length bytes) × AreTypesAt o bytes next ts

-- ---- the tables of kinds and of their numbers, compared with each other

-- the kind of an info word is the kind of its number
abbrev pub KindsByNumber : Type 0
KindsByNumber =
    (info : ℕ) (kind : BtfKind) → info_kind info ≡ Some kind
    → kind_number kind ≡ info_kind_number info

-- each kind but void is the kind of the info words that have its number
abbrev pub NumbersOfKinds : Type 0
NumbersOfKinds =
    (info : ℕ) (kind : BtfKind) → 0 < kind_number kind → info_kind_number info ≡ kind_number kind
    → info_kind info ≡ Some kind
