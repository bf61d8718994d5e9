-- Types that have the same words.
use Rattle.std.specs.Prelude.{None, unwrap_or}
use Rattle.std.proofs.Common.{◌≡◌, ◌+◌, ◌*◌, ◌<◌, ◌≤◌, ℕ, zero, suc, List, [], ◌∷◌, ◌++◌, length, refl, sym, ap, ◌∙◌, arith, subst}
use Rattle.ebpf_base.specs.declared.endianness.Endianness.{Endianness}
use Rattle.ebpf_btf.specs.declared.kind.BtfKind.{BtfKind}
use Rattle.ebpf_btf.specs.declared.kind.BtfKind.TheVariants as kinds
use Rattle.ebpf_btf.specs.declared.types.BtfType.TheVariants.{Fwd, Const, Volatile, Restrict, Ptr, Typedef, Func, Int, Float, Enum, Array, Struct, Union, FuncProto, Var, DataSec, DeclTag, TypeTag, Enum64}
use Rattle.ebpf_btf.specs.Format.{word, info_vlen, info_kind_flag, vlen_at, info_kind, further_words, end_of, spelled, member_at, enum_at, enum64_at, param_at, entry_at}
use Rattle.ebpf_btf.specs.Items.{items_at}
use Rattle.ebpf_btf.specs.Offsets.{kind_here, type_here, end_here}
use Rattle.ebpf_btf.proofs.InOrder.{items_more, items_none}
use Rattle.ebpf_btf.proofs.WordsBehind.{word_front, word_behind}

-- the words of some bytes from an offset up to an end are those of others from another offset on
abbrev pub Same : Endianness → List ℕ → ℕ → List ℕ → ℕ → ℕ → Type 0
Same o xs p ys q end = (k : ℕ) → p + k + 4 ≤ end → word o ys (q + k) ≡ word o xs (p + k)

moved : (o : Endianness) (xs : List ℕ) (p : ℕ) (ys : List ℕ) (q end : ℕ) → Same o xs p ys q end
    → (a b k : ℕ) → a ≡ q + k → b ≡ p + k → p + k + 4 ≤ end → word o ys a ≡ word o xs b
moved o xs p ys q end same a b k at by within = rw (at, by) (same k within)

same_items : {X : Type 0} (f g : ℕ → X) (size p q n : ℕ) → ((k : ℕ) → k < n → f (p + size * k) ≡ g (q + size * k))
    → items_at f size p n ≡ items_at g size q n
same_items f g size p q zero same = items_none f size p ∙ sym (items_none g size q)
same_items f g size p q (suc n) same =
    let fewer = same_items f g size p q n (λ k below. same k (omega arith)) in
    let last = same n (omega arith) in
    let next : suc n ≡ n + 1 = omega arith in
    subst (λ (m : ℕ). items_at f size p m ≡ items_at g size q m) (sym next)
    (items_more f size p n ∙ (λ i. fewer i ++ last i ∷ []) ∙ sym (items_more g size q n))

pub spelled_same : (o : Endianness) (xs : List ℕ) (p : ℕ) (ys : List ℕ) (q : ℕ) (kind : BtfKind) → Same o xs p ys q (end_of o xs p kind)
    → spelled o ys q kind ≡ spelled o xs p kind
unfolding spelled further_words member_at enum_at enum64_at param_at entry_at
spelled_same o xs p ys q kind same = by_kind kind same
  where
    at : (kind : BtfKind) → Same o xs p ys q (end_of o xs p kind) → (a b k : ℕ) → a ≡ q + k → b ≡ p + k → p + k + 4 ≤ end_of o xs p kind
        → word o ys a ≡ word o xs b
    at kind same a b k = moved o xs p ys q (end_of o xs p kind) same a b k

    name : (kind : BtfKind) → Same o xs p ys q (end_of o xs p kind) → word o ys q ≡ word o xs p
    name kind same = at kind same q p 0 (omega arith) (omega arith) (omega arith)

    info : (kind : BtfKind) → Same o xs p ys q (end_of o xs p kind) → word o ys (q + 4) ≡ word o xs (p + 4)
    info kind same = at kind same (q + 4) (p + 4) 4 refl refl (omega arith)

    size : (kind : BtfKind) → Same o xs p ys q (end_of o xs p kind) → word o ys (q + 8) ≡ word o xs (p + 8)
    size kind same = at kind same (q + 8) (p + 8) 8 refl refl (omega arith)

    by_kind : (kind : BtfKind) → Same o xs p ys q (end_of o xs p kind) → spelled o ys q kind ≡ spelled o xs p kind
    by_kind kinds.Unknown same = refl
    by_kind kinds.Int same =
        let a = name kinds.Int same in
        let b = size kinds.Int same in
        let c = at kinds.Int same (q + 12) (p + 12) 12 refl refl (omega arith) in
        λ i. Int (a i) (b i) (c i)
    by_kind kinds.Ptr same = let a = name kinds.Ptr same in let b = size kinds.Ptr same in λ i. Ptr (a i) (b i)
    by_kind kinds.Array same =
        let a = name kinds.Array same in
        let b = at kinds.Array same (q + 12) (p + 12) 12 refl refl (omega arith) in
        let c = at kinds.Array same (q + 16) (p + 16) 16 refl refl (omega arith) in
        let d = at kinds.Array same (q + 20) (p + 20) 20 refl refl (omega arith) in
        λ i. Array (a i) (b i) (c i) (d i)
    by_kind kinds.Struct same =
        let a = name kinds.Struct same in
        let e = info kinds.Struct same in
        let b = size kinds.Struct same in
        let row : (k : ℕ) → k < vlen_at o xs p → member_at o ys (q + 12 + 12 * k) ≡ member_at o xs (p + 12 + 12 * k) =
        λ k below.
        let u = at kinds.Struct same (q + 12 + 12 * k) (p + 12 + 12 * k) (12 + 12 * k) (omega arith) (omega arith) (omega arith) in
        let v = at kinds.Struct same (q + 12 + 12 * k + 4) (p + 12 + 12 * k + 4) (12 + 12 * k + 4) (omega arith) (omega arith) (omega arith) in
        let w = at kinds.Struct same (q + 12 + 12 * k + 8) (p + 12 + 12 * k + 8) (12 + 12 * k + 8) (omega arith) (omega arith) (omega arith) in
        λ i. record { name_offset = u i; btf_type = v i; offset = w i }
        in
        let rows : items_at (member_at o ys) 12 (q + 12) (vlen_at o ys q) ≡ items_at (member_at o xs) 12 (p + 12) (vlen_at o xs p) =
        ap (λ n. items_at (member_at o ys) 12 (q + 12) (info_vlen n)) e ∙ same_items (member_at o ys) (member_at o xs) 12 (q + 12) (p + 12) (vlen_at o xs p) row
        in
        λ i. Struct (a i) (b i) (info_kind_flag (e i)) (rows i)
    by_kind kinds.Union same =
        let a = name kinds.Union same in
        let e = info kinds.Union same in
        let b = size kinds.Union same in
        let row : (k : ℕ) → k < vlen_at o xs p → member_at o ys (q + 12 + 12 * k) ≡ member_at o xs (p + 12 + 12 * k) =
        λ k below.
        let u = at kinds.Union same (q + 12 + 12 * k) (p + 12 + 12 * k) (12 + 12 * k) (omega arith) (omega arith) (omega arith) in
        let v = at kinds.Union same (q + 12 + 12 * k + 4) (p + 12 + 12 * k + 4) (12 + 12 * k + 4) (omega arith) (omega arith) (omega arith) in
        let w = at kinds.Union same (q + 12 + 12 * k + 8) (p + 12 + 12 * k + 8) (12 + 12 * k + 8) (omega arith) (omega arith) (omega arith) in
        λ i. record { name_offset = u i; btf_type = v i; offset = w i }
        in
        let rows : items_at (member_at o ys) 12 (q + 12) (vlen_at o ys q) ≡ items_at (member_at o xs) 12 (p + 12) (vlen_at o xs p) =
        ap (λ n. items_at (member_at o ys) 12 (q + 12) (info_vlen n)) e ∙ same_items (member_at o ys) (member_at o xs) 12 (q + 12) (p + 12) (vlen_at o xs p) row
        in
        λ i. Union (a i) (b i) (info_kind_flag (e i)) (rows i) None
    by_kind kinds.Enum same =
        let a = name kinds.Enum same in
        let e = info kinds.Enum same in
        let b = size kinds.Enum same in
        let row : (k : ℕ) → k < vlen_at o xs p → enum_at o ys (q + 12 + 8 * k) ≡ enum_at o xs (p + 12 + 8 * k) =
        λ k below.
        let u = at kinds.Enum same (q + 12 + 8 * k) (p + 12 + 8 * k) (12 + 8 * k) (omega arith) (omega arith) (omega arith) in
        let v = at kinds.Enum same (q + 12 + 8 * k + 4) (p + 12 + 8 * k + 4) (12 + 8 * k + 4) (omega arith) (omega arith) (omega arith) in
        λ i. record { name_offset = u i; value = v i }
        in
        let rows : items_at (enum_at o ys) 8 (q + 12) (vlen_at o ys q) ≡ items_at (enum_at o xs) 8 (p + 12) (vlen_at o xs p) =
        ap (λ n. items_at (enum_at o ys) 8 (q + 12) (info_vlen n)) e ∙ same_items (enum_at o ys) (enum_at o xs) 8 (q + 12) (p + 12) (vlen_at o xs p) row
        in
        λ i. Enum (a i) (b i) (info_kind_flag (e i)) (rows i)
    by_kind kinds.Fwd same = let a = name kinds.Fwd same in let b = info kinds.Fwd same in λ i. Fwd (a i) (info_kind_flag (b i))
    by_kind kinds.Typedef same = let a = name kinds.Typedef same in let b = size kinds.Typedef same in λ i. Typedef (a i) (b i)
    by_kind kinds.Volatile same = let a = name kinds.Volatile same in let b = size kinds.Volatile same in λ i. Volatile (a i) (b i)
    by_kind kinds.Const same = let a = name kinds.Const same in let b = size kinds.Const same in λ i. Const (a i) (b i)
    by_kind kinds.Restrict same = let a = name kinds.Restrict same in let b = size kinds.Restrict same in λ i. Restrict (a i) (b i)
    by_kind kinds.Func same = let a = name kinds.Func same in let b = size kinds.Func same in λ i. Func (a i) (b i)
    by_kind kinds.FuncProto same =
        let a = name kinds.FuncProto same in
        let e = info kinds.FuncProto same in
        let b = size kinds.FuncProto same in
        let row : (k : ℕ) → k < vlen_at o xs p → param_at o ys (q + 12 + 8 * k) ≡ param_at o xs (p + 12 + 8 * k) =
        λ k below.
        let u = at kinds.FuncProto same (q + 12 + 8 * k) (p + 12 + 8 * k) (12 + 8 * k) (omega arith) (omega arith) (omega arith) in
        let v = at kinds.FuncProto same (q + 12 + 8 * k + 4) (p + 12 + 8 * k + 4) (12 + 8 * k + 4) (omega arith) (omega arith) (omega arith) in
        λ i. record { name_offset = u i; btf_type = v i }
        in
        let rows : items_at (param_at o ys) 8 (q + 12) (vlen_at o ys q) ≡ items_at (param_at o xs) 8 (p + 12) (vlen_at o xs p) =
        ap (λ n. items_at (param_at o ys) 8 (q + 12) (info_vlen n)) e ∙ same_items (param_at o ys) (param_at o xs) 8 (q + 12) (p + 12) (vlen_at o xs p) row
        in
        λ i. FuncProto (a i) (b i) (rows i)
    by_kind kinds.Var same =
        let a = name kinds.Var same in
        let b = size kinds.Var same in
        let c = at kinds.Var same (q + 12) (p + 12) 12 refl refl (omega arith) in
        λ i. Var (a i) (b i) (c i)
    by_kind kinds.DataSec same =
        let a = name kinds.DataSec same in
        let e = info kinds.DataSec same in
        let b = size kinds.DataSec same in
        let row : (k : ℕ) → k < vlen_at o xs p → entry_at o ys (q + 12 + 12 * k) ≡ entry_at o xs (p + 12 + 12 * k) =
        λ k below.
        let u = at kinds.DataSec same (q + 12 + 12 * k) (p + 12 + 12 * k) (12 + 12 * k) (omega arith) (omega arith) (omega arith) in
        let v = at kinds.DataSec same (q + 12 + 12 * k + 4) (p + 12 + 12 * k + 4) (12 + 12 * k + 4) (omega arith) (omega arith) (omega arith) in
        let w = at kinds.DataSec same (q + 12 + 12 * k + 8) (p + 12 + 12 * k + 8) (12 + 12 * k + 8) (omega arith) (omega arith) (omega arith) in
        λ i. record { btf_type = u i; offset = v i; size = w i }
        in
        let rows : items_at (entry_at o ys) 12 (q + 12) (vlen_at o ys q) ≡ items_at (entry_at o xs) 12 (p + 12) (vlen_at o xs p) =
        ap (λ n. items_at (entry_at o ys) 12 (q + 12) (info_vlen n)) e ∙ same_items (entry_at o ys) (entry_at o xs) 12 (q + 12) (p + 12) (vlen_at o xs p) row
        in
        λ i. DataSec (a i) (b i) (rows i)
    by_kind kinds.Float same = let a = name kinds.Float same in let b = size kinds.Float same in λ i. Float (a i) (b i)
    by_kind kinds.DeclTag same =
        let a = name kinds.DeclTag same in
        let b = size kinds.DeclTag same in
        let c = at kinds.DeclTag same (q + 12) (p + 12) 12 refl refl (omega arith) in
        λ i. DeclTag (a i) (b i) (c i)
    by_kind kinds.TypeTag same = let a = name kinds.TypeTag same in let b = size kinds.TypeTag same in λ i. TypeTag (a i) (b i)
    by_kind kinds.Enum64 same =
        let a = name kinds.Enum64 same in
        let e = info kinds.Enum64 same in
        let b = size kinds.Enum64 same in
        let row : (k : ℕ) → k < vlen_at o xs p → enum64_at o ys (q + 12 + 12 * k) ≡ enum64_at o xs (p + 12 + 12 * k) =
        λ k below.
        let u = at kinds.Enum64 same (q + 12 + 12 * k) (p + 12 + 12 * k) (12 + 12 * k) (omega arith) (omega arith) (omega arith) in
        let v = at kinds.Enum64 same (q + 12 + 12 * k + 4) (p + 12 + 12 * k + 4) (12 + 12 * k + 4) (omega arith) (omega arith) (omega arith) in
        let w = at kinds.Enum64 same (q + 12 + 12 * k + 8) (p + 12 + 12 * k + 8) (12 + 12 * k + 8) (omega arith) (omega arith) (omega arith) in
        λ i. record { name_offset = u i; value_low = v i; value_high = w i }
        in
        let rows : items_at (enum64_at o ys) 12 (q + 12) (vlen_at o ys q) ≡ items_at (enum64_at o xs) 12 (p + 12) (vlen_at o xs p) =
        ap (λ n. items_at (enum64_at o ys) 12 (q + 12) (info_vlen n)) e ∙ same_items (enum64_at o ys) (enum64_at o xs) 12 (q + 12) (p + 12) (vlen_at o xs p) row
        in
        λ i. Enum64 (a i) (b i) (info_kind_flag (e i)) (rows i)

-- ---- a type with the same words

pub type_same : (o : Endianness) (xs : List ℕ) (p : ℕ) (ys : List ℕ) (q : ℕ) → Same o xs p ys q (end_here o xs p)
    → (type_here o ys q ≡ type_here o xs p) × (end_here o ys q + p ≡ end_here o xs p + q)
unfolding type_here end_here kind_here
type_same o xs p ys q same =
    let kind = kind_here o xs p in
    let info : word o ys (q + 4) ≡ word o xs (p + 4) = moved o xs p ys q (end_here o xs p) same (q + 4) (p + 4) 4 refl refl (omega arith) in
    let kinds : kind_here o ys q ≡ kind = ap kind_of_info info in
    let ends : end_of o ys q kind + p ≡ end_of o xs p kind + q = shifted (further_words kind (vlen_at o ys q)) (further_words kind (vlen_at o xs p)) (ap (λ n. further_words kind (info_vlen n)) info) in
    (ap (spelled o ys q) kinds ∙ spelled_same o xs p ys q kind same, ap (λ k. end_of o ys q k + p) kinds ∙ ends)
  where
    kind_of_info : ℕ → BtfKind
    kind_of_info n = unwrap_or (info_kind n) kinds.Unknown

    shifted : (m n : ℕ) → m ≡ n → q + 12 + 4 * m + p ≡ p + 12 + 4 * n + q
    shifted m n is = omega arith

-- a type inside the bytes stays where more follow
pub type_front : (o : Endianness) (xs ys : List ℕ) (p : ℕ) → end_here o xs p ≤ length xs
    → (type_here o (xs ++ ys) p ≡ type_here o xs p) × (end_here o (xs ++ ys) p ≡ end_here o xs p)
type_front o xs ys p inside =
    let both = type_same o xs p (xs ++ ys) p (λ k within. word_front o xs ys (p + k) (omega arith)) in
    (both.0, omega (arith, both.1))

-- a type at the front of bytes is behind others where they are put before it
pub type_behind : (o : Endianness) (xs ys : List ℕ) → (type_here o (xs ++ ys) (length xs) ≡ type_here o ys 0) × (end_here o (xs ++ ys) (length xs) ≡ end_here o ys 0 + length xs)
type_behind o xs ys =
    let both = type_same o ys 0 (xs ++ ys) (length xs) (λ k within. word_behind o xs ys k ∙ ap (word o ys) (front k)) in
    (both.0, omega (arith, both.1))
  where
    front : (k : ℕ) → k ≡ 0 + k
    front k = omega arith
