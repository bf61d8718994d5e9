-- What the first words of a type tell.
use Rattle.std.proofs.Common.{◌≡◌, ◌==◌, ℕ, false, cond, List, refl, ap, ◌∙◌}
use Rattle.ebpf_base.specs.declared.endianness.Endianness.{Endianness}
use Rattle.ebpf_btf.specs.declared.kind.BtfKind.{BtfKind}
use Rattle.ebpf_btf.specs.declared.kind.BtfKind.TheVariants as kinds
use Rattle.ebpf_btf.specs.Format.{spelled, word}
use Rattle.ebpf_btf.specs.Offsets.{kind_here, type_here}
use Rattle.ebpf_btf.specs.Types.{kind_number, kind_of, name_off}
use Rattle.ebpf_btf.specs.Words.{fallback_of, has_fallback}
use Rattle.ebpf_btf.proofs.Spelling.{kind_of_spelled}

pub kind_again : (o : Endianness) (bytes : List ℕ) (offset : ℕ) → kind_of (type_here o bytes offset) ≡ kind_here o bytes offset
unfolding type_here
kind_again o bytes offset = kind_of_spelled o bytes offset (kind_here o bytes offset)

name_off_spelled : (o : Endianness) (bytes : List ℕ) (offset : ℕ) (kind : BtfKind) → name_off (spelled o bytes offset kind) ≡ cond (kind_number kind == 0) 0 (word o bytes offset)
unfolding name_off spelled kind_number
name_off_spelled o bytes offset kinds.Unknown = refl
name_off_spelled o bytes offset kinds.Int = refl
name_off_spelled o bytes offset kinds.Ptr = refl
name_off_spelled o bytes offset kinds.Array = refl
name_off_spelled o bytes offset kinds.Struct = refl
name_off_spelled o bytes offset kinds.Union = refl
name_off_spelled o bytes offset kinds.Enum = refl
name_off_spelled o bytes offset kinds.Fwd = refl
name_off_spelled o bytes offset kinds.Typedef = refl
name_off_spelled o bytes offset kinds.Volatile = refl
name_off_spelled o bytes offset kinds.Const = refl
name_off_spelled o bytes offset kinds.Restrict = refl
name_off_spelled o bytes offset kinds.Func = refl
name_off_spelled o bytes offset kinds.FuncProto = refl
name_off_spelled o bytes offset kinds.Var = refl
name_off_spelled o bytes offset kinds.DataSec = refl
name_off_spelled o bytes offset kinds.Float = refl
name_off_spelled o bytes offset kinds.DeclTag = refl
name_off_spelled o bytes offset kinds.TypeTag = refl
name_off_spelled o bytes offset kinds.Enum64 = refl

-- the name stands in the first word, but of void
pub name_void : (o : Endianness) (bytes : List ℕ) (offset : ℕ) → kind_here o bytes offset ≡ kinds.Unknown → name_off (type_here o bytes offset) ≡ 0
unfolding type_here kind_number
name_void o bytes offset is = name_off_spelled o bytes offset (kind_here o bytes offset) ∙ ap (λ k. cond (kind_number k == 0) 0 (word o bytes offset)) is

pub name_first : (o : Endianness) (bytes : List ℕ) (offset : ℕ) → (kind_number (kind_here o bytes offset) == 0) ≡ false → name_off (type_here o bytes offset) ≡ word o bytes offset
unfolding type_here
name_first o bytes offset some = name_off_spelled o bytes offset (kind_here o bytes offset) ∙ ap (λ b. cond b 0 (word o bytes offset)) some

-- bytes have no enumeration that was made a UNION
plain_spelled : (o : Endianness) (bytes : List ℕ) (offset : ℕ) (kind : BtfKind) → has_fallback (spelled o bytes offset kind) ≡ false
unfolding fallback_of spelled
plain_spelled o bytes offset kinds.Unknown = refl
plain_spelled o bytes offset kinds.Int = refl
plain_spelled o bytes offset kinds.Ptr = refl
plain_spelled o bytes offset kinds.Array = refl
plain_spelled o bytes offset kinds.Struct = refl
plain_spelled o bytes offset kinds.Union = refl
plain_spelled o bytes offset kinds.Enum = refl
plain_spelled o bytes offset kinds.Fwd = refl
plain_spelled o bytes offset kinds.Typedef = refl
plain_spelled o bytes offset kinds.Volatile = refl
plain_spelled o bytes offset kinds.Const = refl
plain_spelled o bytes offset kinds.Restrict = refl
plain_spelled o bytes offset kinds.Func = refl
plain_spelled o bytes offset kinds.FuncProto = refl
plain_spelled o bytes offset kinds.Var = refl
plain_spelled o bytes offset kinds.DataSec = refl
plain_spelled o bytes offset kinds.Float = refl
plain_spelled o bytes offset kinds.DeclTag = refl
plain_spelled o bytes offset kinds.TypeTag = refl
plain_spelled o bytes offset kinds.Enum64 = refl

pub plain_here : (o : Endianness) (bytes : List ℕ) (offset : ℕ) → has_fallback (type_here o bytes offset) ≡ false
unfolding type_here
plain_here o bytes offset = plain_spelled o bytes offset (kind_here o bytes offset)
