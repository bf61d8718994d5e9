-- The words of a type as `.BTF` writes it (the kernel's Documentation/bpf/btf.rst, 2.2 "Type
-- Encoding").
use Rattle.std.specs.Prelude.{ℕ, ◌+◌, ◌*◌, ◌^◌, Bool, false, List, [], ◌∷◌, length, drop, flat_map}
use Rattle.std.specs.Prelude.{sum_by, Option, None, is_some, unwrap_or, nat_le, ◌==◌, if◌then◌else◌}
use Rattle.std.specs.List.{list_any}
use Rattle.byteorder.specs.Endian.{little_bytes, big_bytes}
use Rattle.ebpf_base.specs.Faults.{first_of}
use Rattle.ebpf_base.specs.declared.endianness.Endianness.{Endianness}
use Rattle.ebpf_base.specs.declared.endianness.Endianness.TheVariants.{Little, Big}
use Rattle.ebpf_btf.specs.declared.error.BtfError.{BtfError}
use Rattle.ebpf_btf.specs.declared.error.BtfError.TheVariants.{TooLarge}
use Rattle.ebpf_btf.specs.declared.fallback.Enum64Fallback.{Enum64Fallback}
use Rattle.ebpf_btf.specs.declared.members.BtfMember.{BtfMember}
use Rattle.ebpf_btf.specs.declared.members.BtfEnum.{BtfEnum}
use Rattle.ebpf_btf.specs.declared.members.BtfEnum64.{BtfEnum64}
use Rattle.ebpf_btf.specs.declared.members.BtfParam.{BtfParam}
use Rattle.ebpf_btf.specs.declared.members.DataSecEntry.{DataSecEntry}
use Rattle.ebpf_btf.specs.declared.types.BtfType.{BtfType}
use Rattle.ebpf_btf.specs.declared.types.BtfType.TheVariants.{Fwd, Int, Enum, Array, Struct, Union}
use Rattle.ebpf_btf.specs.declared.types.BtfType.TheVariants.{FuncProto, Var, DataSec, DeclTag}
use Rattle.ebpf_btf.specs.declared.types.BtfType.TheVariants.{Enum64}
use Rattle.ebpf_btf.specs.Format.{further_words}
use Rattle.ebpf_btf.specs.TypeInfo.{TypeInfo}
use Rattle.ebpf_btf.specs.Types.{kind_of, kind_number, name_off, size_word, type_word}

-- the four bytes of a word
unfoldable pub word_bytes : Endianness → ℕ → List ℕ
word_bytes Little x = little_bytes 4 x
word_bytes Big x = big_bytes 4 x

unfoldable pub words_bytes : Endianness → List ℕ → List ℕ
words_bytes o ws = flat_map (word_bytes o) ws

abbrev pub member_words : BtfMember → List ℕ
member_words m = m.name_offset ∷ m.btf_type ∷ m.offset ∷ []

abbrev pub enum_words : BtfEnum → List ℕ
enum_words v = v.name_offset ∷ v.value ∷ []

abbrev pub enum64_words : BtfEnum64 → List ℕ
enum64_words v = v.name_offset ∷ v.value_low ∷ v.value_high ∷ []

abbrev pub param_words : BtfParam → List ℕ
param_words p = p.name_offset ∷ p.btf_type ∷ []

abbrev pub entry_words : DataSecEntry → List ℕ
entry_words e = e.btf_type ∷ e.offset ∷ e.size ∷ []

unfoldable pub flag_of : BtfType → Bool
flag_of (Struct _ _ flag _) = flag
flag_of (Union _ _ flag _ _) = flag
flag_of (Enum _ _ flag _) = flag
flag_of (Enum64 _ _ flag _) = flag
flag_of (Fwd _ flag) = flag
flag_of _ = false

-- the number of members, variants, parameters or entries
unfoldable pub count_of : BtfType → ℕ
count_of (Struct _ _ _ members) = length members
count_of (Union _ _ _ members _) = length members
count_of (Enum _ _ _ variants) = length variants
count_of (Enum64 _ _ _ variants) = length variants
count_of (FuncProto _ _ params) = length params
count_of (DataSec _ _ entries) = length entries
count_of _ = 0

-- the info word of a kind, a flag and a count
abbrev pub info_word : ℕ → Bool → ℕ → ℕ
info_word kind flag count = count + kind * 2 ^ 24 + (if flag then 2 ^ 31 else 0)

-- the size or the type field; 0 for a type that has neither
abbrev pub third_of : BtfType → ℕ
third_of t = unwrap_or (size_word t) (unwrap_or (type_word t) 0)

-- the words of a kind
unfoldable pub further_of : BtfType → List ℕ
further_of (Int _ _ bits) = bits ∷ []
further_of (Array _ element index len) = element ∷ index ∷ len ∷ []
further_of (Struct _ _ _ members) = flat_map member_words members
further_of (Union _ _ _ members _) = flat_map member_words members
further_of (Enum _ _ _ variants) = flat_map enum_words variants
further_of (Enum64 _ _ _ variants) = flat_map enum64_words variants
further_of (FuncProto _ _ params) = flat_map param_words params
further_of (Var _ _ linkage) = linkage ∷ []
further_of (DataSec _ _ entries) = flat_map entry_words entries
further_of (DeclTag _ _ component) = component ∷ []
further_of _ = []

unfoldable pub words_of : BtfType → List ℕ
words_of t =
    name_off t
    ∷ info_word (kind_number (kind_of t)) (flag_of t) (count_of t)
    ∷ third_of t
    ∷ further_of t

-- ---- what can be added

-- the number of bytes of a type, and of the types after void
unfoldable pub type_length : BtfType → ℕ
type_length t = 12 + 4 * further_words (kind_of t) (count_of t)

unfoldable pub types_length : List BtfType → ℕ
types_length types = sum_by type_length (drop 1 types)

-- Void has no words, a count has 16 bits, and the length of the types 32.
abbrev pub type_fault : TypeInfo → BtfType → Option BtfError
type_fault info t = first_of (
    (kind_number (kind_of t) == 0, TooLarge)
    ∷ (nat_le 65536 (count_of t), TooLarge)
    ∷ (nat_le (2 ^ 32) (types_length info.types + type_length t), TooLarge)
    ∷ [])

-- ---- what can be written

-- the enumeration of 64 bits that a UNION replaces, which no bytes hold
unfoldable pub fallback_of : BtfType → Option Enum64Fallback
fallback_of (Union _ _ _ _ fallback) = fallback
fallback_of _ = None

abbrev pub has_fallback : BtfType → Bool
has_fallback t = is_some (fallback_of t)

-- No bytes hold the enumeration that a UNION replaces, and the length of the strings has 32 bits.
abbrev pub written_fault : TypeInfo → Option BtfError
written_fault info =
    first_of
    ((list_any has_fallback info.types, TooLarge)
    ∷ (nat_le (2 ^ 32) (length info.strings), TooLarge)
    ∷ [])
