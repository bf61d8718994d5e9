-- How long types are.
use Rattle.std.proofs.Common.{◌≡◌, ◌+◌, ◌*◌, ◌^◌, ◌<◌, ◌≤◌, ◌==◌, nat_le, true, false, Some, None, ℕ, List, [], ◌∷◌, length, refl, ap, ◌∙◌, arith}
use Rattle.std.specs.Prelude.{sum_by}
use Rattle.std.proofs.lemmas.List.Sums.{sum_by-cons}
use Rattle.ebpf_base.specs.declared.endianness.Endianness.{Endianness}
use Rattle.ebpf_btf.specs.declared.kind.BtfKind.{BtfKind}
use Rattle.ebpf_btf.specs.declared.kind.BtfKind.TheVariants as kinds
use Rattle.ebpf_btf.specs.declared.types.BtfType.{BtfType}
use Rattle.ebpf_btf.specs.Format.{AreTypesAt, IsTypeAt, vlen_at, further_words, spelled, member_at, enum_at, enum64_at, param_at, entry_at}
use Rattle.ebpf_btf.specs.Types.{kind_of, kind_number}
use Rattle.ebpf_btf.specs.Words.{count_of, type_fault, type_length, types_length}
use Rattle.ebpf_btf.specs.TypeInfo.{TypeInfo}
use Rattle.ebpf_btf.specs.declared.error.BtfError.TheVariants.{TooLarge}
use Rattle.std.proofs.lemmas.Bool.Decides.{nat_tests}
use Rattle.ebpf_btf.proofs.InOrder.{items_length}

further_again : (o : Endianness) (bytes : List ℕ) (p : ℕ) (kind : BtfKind)
    → further_words kind (count_of (spelled o bytes p kind)) ≡ further_words kind (vlen_at o bytes p)
unfolding further_words count_of spelled
further_again o bytes p kinds.Struct = ap (λ n. 3 * n) (items_length (member_at o bytes) 12 (p + 12) (vlen_at o bytes p))
further_again o bytes p kinds.Union = ap (λ n. 3 * n) (items_length (member_at o bytes) 12 (p + 12) (vlen_at o bytes p))
further_again o bytes p kinds.Enum = ap (λ n. 2 * n) (items_length (enum_at o bytes) 8 (p + 12) (vlen_at o bytes p))
further_again o bytes p kinds.FuncProto = ap (λ n. 2 * n) (items_length (param_at o bytes) 8 (p + 12) (vlen_at o bytes p))
further_again o bytes p kinds.DataSec = ap (λ n. 3 * n) (items_length (entry_at o bytes) 12 (p + 12) (vlen_at o bytes p))
further_again o bytes p kinds.Enum64 = ap (λ n. 3 * n) (items_length (enum64_at o bytes) 12 (p + 12) (vlen_at o bytes p))
further_again o bytes p kinds.Unknown = refl
further_again o bytes p kinds.Int = refl
further_again o bytes p kinds.Ptr = refl
further_again o bytes p kinds.Array = refl
further_again o bytes p kinds.Fwd = refl
further_again o bytes p kinds.Typedef = refl
further_again o bytes p kinds.Volatile = refl
further_again o bytes p kinds.Const = refl
further_again o bytes p kinds.Restrict = refl
further_again o bytes p kinds.Func = refl
further_again o bytes p kinds.Var = refl
further_again o bytes p kinds.Float = refl
further_again o bytes p kinds.DeclTag = refl
further_again o bytes p kinds.TypeTag = refl

pub at_least : (t : BtfType) → 12 ≤ type_length t
unfolding type_length
at_least t = omega arith

pub length_here : (o : Endianness) (bytes : List ℕ) (p next : ℕ) (t : BtfType) → IsTypeAt o bytes p next t → next ≡ p + type_length t
unfolding type_length
length_here o bytes p next t is =
    let same : further_words (kind_of t) (count_of t) ≡ further_words (kind_of t) (vlen_at o bytes p) =
    ap (λ x. further_words (kind_of t) (count_of x)) is.words ∙ further_again o bytes p (kind_of t) in
    let ends : next ≡ p + 12 + 4 * further_words (kind_of t) (vlen_at o bytes p) = is.ends in
    omega arith

length_from : (o : Endianness) (bytes : List ℕ) (p : ℕ) (ts : List BtfType) → AreTypesAt o bytes p ts → p + sum_by type_length ts ≡ length bytes
length_from o bytes p [] are = omega (arith, are)
length_from o bytes p (t ∷ ts) are =
    let first = length_here o bytes p are.0 t are.1 in
    let rest = length_from o bytes are.0 ts are.3 in
    let opened = sum_by-cons type_length t ts in
    omega arith

-- the types after void are as long as the bytes that they stand in
pub length_of_all : (o : Endianness) (bytes : List ℕ) (void : BtfType) (ts : List BtfType) → AreTypesAt o bytes 0 ts → types_length (void ∷ ts) ≡ length bytes
unfolding types_length
length_of_all o bytes void ts are = let all = length_from o bytes 0 ts are in omega arith

-- ---- whether there is room

pub fault_large : (info : TypeInfo) (t : BtfType) → 0 < kind_number (kind_of t) → count_of t < 65536 → 2 ^ 32 ≤ types_length info.types + type_length t
    → type_fault info t ≡ Some TooLarge
fault_large info t some few large =
    let a : (kind_number (kind_of t) == 0) ≡ false = grind (arith, nat_tests) in
    let b : nat_le 65536 (count_of t) ≡ false = grind (arith, nat_tests) in
    let c : nat_le (2 ^ 32) (types_length info.types + type_length t) ≡ true = grind (arith, nat_tests) in
    rw (a, b, c) refl

pub fault_none : (info : TypeInfo) (t : BtfType) → 0 < kind_number (kind_of t) → count_of t < 65536 → types_length info.types + type_length t < 2 ^ 32
    → type_fault info t ≡ None
fault_none info t some few small =
    let a : (kind_number (kind_of t) == 0) ≡ false = grind (arith, nat_tests) in
    let b : nat_le 65536 (count_of t) ≡ false = grind (arith, nat_tests) in
    let c : nat_le (2 ^ 32) (types_length info.types + type_length t) ≡ false = grind (arith, nat_tests) in
    rw (a, b, c) refl
