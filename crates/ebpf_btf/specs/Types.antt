-- The kind, name, size and other fields of a type (the kernel's Documentation/bpf/btf.rst, 2.2
-- "Type Encoding").
use Rattle.std.specs.Prelude.{ℕ, ◌/◌, ◌%◌, ◌^◌, Bool, false, List, Option, Some, None, ◌==◌}
use Rattle.std.specs.Prelude.{if◌then◌else◌}
use Rattle.ebpf_btf.specs.declared.array.BtfArray.{BtfArray}
use Rattle.ebpf_btf.specs.declared.kind.BtfKind.{BtfKind}
use Rattle.ebpf_btf.specs.declared.kind.BtfKind.TheVariants as kinds
use Rattle.ebpf_btf.specs.declared.members.BtfMember.{BtfMember}
use Rattle.ebpf_btf.specs.declared.types.BtfType.{BtfType}
use Rattle.ebpf_btf.specs.declared.types.BtfType.TheVariants.{Unknown, Fwd, Const, Volatile}
use Rattle.ebpf_btf.specs.declared.types.BtfType.TheVariants.{Restrict, Ptr, Typedef, Func, Int}
use Rattle.ebpf_btf.specs.declared.types.BtfType.TheVariants.{Float, Enum, Array, Struct, Union}
use Rattle.ebpf_btf.specs.declared.types.BtfType.TheVariants.{FuncProto, Var, DataSec, DeclTag}
use Rattle.ebpf_btf.specs.declared.types.BtfType.TheVariants.{TypeTag, Enum64}

unfoldable pub kind_of : BtfType → BtfKind
kind_of Unknown = kinds.Unknown
kind_of (Fwd _ _) = kinds.Fwd
kind_of (Const _ _) = kinds.Const
kind_of (Volatile _ _) = kinds.Volatile
kind_of (Restrict _ _) = kinds.Restrict
kind_of (Ptr _ _) = kinds.Ptr
kind_of (Typedef _ _) = kinds.Typedef
kind_of (Func _ _) = kinds.Func
kind_of (Int _ _ _) = kinds.Int
kind_of (Float _ _) = kinds.Float
kind_of (Enum _ _ _ _) = kinds.Enum
kind_of (Array _ _ _ _) = kinds.Array
kind_of (Struct _ _ _ _) = kinds.Struct
kind_of (Union _ _ _ _ _) = kinds.Union
kind_of (FuncProto _ _ _) = kinds.FuncProto
kind_of (Var _ _ _) = kinds.Var
kind_of (DataSec _ _ _) = kinds.DataSec
kind_of (DeclTag _ _ _) = kinds.DeclTag
kind_of (TypeTag _ _) = kinds.TypeTag
kind_of (Enum64 _ _ _ _) = kinds.Enum64

-- the number of a kind in `.BTF`
unfoldable pub kind_number : BtfKind → ℕ
kind_number kinds.Unknown = 0
kind_number kinds.Int = 1
kind_number kinds.Ptr = 2
kind_number kinds.Array = 3
kind_number kinds.Struct = 4
kind_number kinds.Union = 5
kind_number kinds.Enum = 6
kind_number kinds.Fwd = 7
kind_number kinds.Typedef = 8
kind_number kinds.Volatile = 9
kind_number kinds.Const = 10
kind_number kinds.Restrict = 11
kind_number kinds.Func = 12
kind_number kinds.FuncProto = 13
kind_number kinds.Var = 14
kind_number kinds.DataSec = 15
kind_number kinds.Float = 16
kind_number kinds.DeclTag = 17
kind_number kinds.TypeTag = 18
kind_number kinds.Enum64 = 19

-- whether a type is of a kind
abbrev pub is_kind : BtfKind → BtfType → Bool
is_kind kind t = kind_number (kind_of t) == kind_number kind

-- the offset of the name
unfoldable pub name_off : BtfType → ℕ
name_off Unknown = 0
name_off (Fwd name _) = name
name_off (Const name _) = name
name_off (Volatile name _) = name
name_off (Restrict name _) = name
name_off (Ptr name _) = name
name_off (Typedef name _) = name
name_off (Func name _) = name
name_off (Int name _ _) = name
name_off (Float name _) = name
name_off (Enum name _ _ _) = name
name_off (Array name _ _ _) = name
name_off (Struct name _ _ _) = name
name_off (Union name _ _ _ _) = name
name_off (FuncProto name _ _) = name
name_off (Var name _ _) = name
name_off (DataSec name _ _) = name
name_off (DeclTag name _ _) = name
name_off (TypeTag name _) = name
name_off (Enum64 name _ _ _) = name

-- the size field of a type, in bytes
unfoldable pub size_word : BtfType → Option ℕ
size_word (Int _ size _) = Some size
size_word (Struct _ size _ _) = Some size
size_word (Union _ size _ _ _) = Some size
size_word (Enum _ size _ _) = Some size
size_word (Enum64 _ size _ _) = Some size
size_word (Float _ size) = Some size
size_word (DataSec _ size _) = Some size
size_word _ = None

-- the id in the type word
unfoldable pub type_word : BtfType → Option ℕ
type_word (Ptr _ id) = Some id
type_word (Typedef _ id) = Some id
type_word (Volatile _ id) = Some id
type_word (Const _ id) = Some id
type_word (Restrict _ id) = Some id
type_word (TypeTag _ id) = Some id
type_word (DeclTag _ id _) = Some id
type_word (Var _ id _) = Some id
type_word (Func _ id) = Some id
type_word (FuncProto _ id _) = Some id
type_word _ = None

unfoldable pub members_of : BtfType → Option (List BtfMember)
members_of (Struct _ _ _ members) = Some members
members_of (Union _ _ _ members _) = Some members
members_of _ = None

-- whether the offset fields of members hold bit field sizes
unfoldable pub has_bit_fields : BtfType → Bool
has_bit_fields (Struct _ _ flag _) = flag
has_bit_fields (Union _ _ flag _ _) = flag
has_bit_fields _ = false

-- the bit offset of a member
unfoldable pub bit_offset : BtfType → BtfMember → ℕ
bit_offset t member = if has_bit_fields t then member.offset % 2 ^ 24 else member.offset

-- the bit field size of a member that is a bit field, else 0
unfoldable pub bit_field_size : BtfType → BtfMember → ℕ
bit_field_size t member = if has_bit_fields t then member.offset / 2 ^ 24 else 0

-- whether values are signed: of an INT as its encoding says (BTF_INT_SIGNED, bit 0 of the bits 24
-- to 27 of its word), of an ENUM or ENUM64 as its kind_flag does
unfoldable pub is_signed : BtfType → Bool
is_signed (Int _ _ bits) = bits / 2 ^ 24 % 2 == 1
is_signed (Enum _ _ flag _) = flag
is_signed (Enum64 _ _ flag _) = flag
is_signed _ = false

-- the elements of an ARRAY
unfoldable pub array_of : BtfType → Option BtfArray
array_of (Array _ element index len) =
    Some (record { element_type = element; index_type = index; len = len })
array_of _ = None
