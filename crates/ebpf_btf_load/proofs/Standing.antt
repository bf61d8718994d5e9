-- Types one after the other, and one of them changed in place.
use Rattle.std.proofs.Common.{◌≡◌, ◌+◌, ◌*◌, ◌<◌, ◌≤◌, ◌⊎◌, inl, inr, ℕ, zero, suc, true, List, [], ◌∷◌, length, Some, refl, sym, ap, ◌∙◌, arith, subst, nat_le}
use Rattle.std.specs.Prelude.{slice_get}
use Rattle.std.proofs.lemmas.Bool.Decides.{nat_tests}
use Rattle.ebpf_base.specs.declared.endianness.Endianness.{Endianness}
use Rattle.ebpf_btf.specs.declared.kind.BtfKind.{BtfKind}
use Rattle.ebpf_btf.specs.declared.kind.BtfKind.TheVariants as kinds
use Rattle.ebpf_btf.specs.declared.members.BtfParam.{BtfParam}
use Rattle.ebpf_btf.specs.declared.types.BtfType.{BtfType}
use Rattle.ebpf_btf.specs.declared.types.BtfType.TheVariants.{FuncProto}
use Rattle.ebpf_btf.specs.Format.{AreTypesAt, IsTypeAt, end_of, further_words, info_at, info_kind, info_kind_number, info_vlen, word}
use Rattle.ebpf_btf.specs.Words.{count_of, type_length}
use Rattle.ebpf_btf.specs.Types.{kind_of, kind_number}
use Rattle.ebpf_btf.proofs.KindRows.{kinds_by_number}
use Rattle.ebpf_btf.proofs.Lengths.{length_here}
use Rattle.ebpf_btf.proofs.SameWords.{spelled_same}
use Rattle.ebpf_btf_load.specs.KernelTypes.{changed_at, named_param}
use Rattle.ebpf_btf_load.specs.TypeSources.{type_end, type_starts}

-- ---- types by their lengths

-- where the type with an index begins, of types that follow each other from an offset on
abbrev pub place : ℕ → List BtfType → ℕ → ℕ
place p [] k = p
place p (t ∷ ts) zero = p
place p (t ∷ ts) (suc k) = place (p + type_length t) ts k

abbrev pub Tiled : Endianness → List ℕ → ℕ → List BtfType → Type 0
Tiled o part p [] = p ≡ length part
Tiled o part p (t ∷ ts) = IsTypeAt o part p (p + type_length t) t × (p + type_length t ≤ length part) × Tiled o part (p + type_length t) ts

pub tiled_from : (o : Endianness) (part : List ℕ) (p : ℕ) (ts : List BtfType) → AreTypesAt o part p ts → Tiled o part p ts
tiled_from o part p [] are = are
tiled_from o part p (t ∷ ts) are =
    let ends : are.0 ≡ p + type_length t = length_here o part p are.0 t are.1 in (
      subst (λ (n : ℕ). IsTypeAt o part p n t) ends are.1,
      omega (arith, are.2),
      tiled_from o part (p + type_length t) ts (subst (λ (n : ℕ). AreTypesAt o part n ts) ends are.3),
    )

pub from_tiled : (o : Endianness) (part : List ℕ) (p : ℕ) (ts : List BtfType) → Tiled o part p ts → AreTypesAt o part p ts
from_tiled o part p [] are = are
from_tiled o part p (t ∷ ts) are = (p + type_length t, are.0, are.1, from_tiled o part (p + type_length t) ts are.2)

pub not_before : (p : ℕ) (ts : List BtfType) (k : ℕ) → p ≤ place p ts k
not_before p [] k = omega arith
not_before p (t ∷ ts) zero = omega arith
not_before p (t ∷ ts) (suc k) = let more = not_before (p + type_length t) ts k in omega arith

-- the type with an index stands where it begins
pub type_there : (o : Endianness) (part : List ℕ) (p : ℕ) (ts : List BtfType) (k : ℕ) (t : BtfType) → Tiled o part p ts → slice_get ts k ≡ Some t
    → IsTypeAt o part (place p ts k) (place p ts k + type_length t) t × (place p ts k + type_length t ≤ length part)
type_there o part p [] k t are is = cc
type_there o part p (u ∷ us) zero t are is =
    let same : u ≡ t = cc in
    subst (λ (v : BtfType). IsTypeAt o part p (p + type_length v) v × (p + type_length v ≤ length part)) same (are.0, are.1)
type_there o part p (u ∷ us) (suc k) t are is = type_there o part (p + type_length u) us k t are.2 is

-- ---- where types begin, by their bytes

ends_there : (o : Endianness) (part : List ℕ) (p : ℕ) (kind : BtfKind) → 0 < kind_number kind → end_of o part p kind ≤ length part
    → type_end o part p kind ≡ end_of o part p kind
unfolding type_end kind_number
ends_there o part p kind some within =
    let test : nat_le (end_of o part p kind) (length part) ≡ true = grind (arith, nat_tests) in
    by_kind kind some test
  where
    by_kind : (kind : BtfKind) → 0 < kind_number kind → nat_le (end_of o part p kind) (length part) ≡ true → type_end o part p kind ≡ end_of o part p kind
    by_kind kinds.Unknown some test = absurd (omega arith)
    by_kind kinds.Int some test = rw test refl
    by_kind kinds.Ptr some test = rw test refl
    by_kind kinds.Array some test = rw test refl
    by_kind kinds.Struct some test = rw test refl
    by_kind kinds.Union some test = rw test refl
    by_kind kinds.Enum some test = rw test refl
    by_kind kinds.Fwd some test = rw test refl
    by_kind kinds.Typedef some test = rw test refl
    by_kind kinds.Volatile some test = rw test refl
    by_kind kinds.Const some test = rw test refl
    by_kind kinds.Restrict some test = rw test refl
    by_kind kinds.Func some test = rw test refl
    by_kind kinds.FuncProto some test = rw test refl
    by_kind kinds.Var some test = rw test refl
    by_kind kinds.DataSec some test = rw test refl
    by_kind kinds.Float some test = rw test refl
    by_kind kinds.DeclTag some test = rw test refl
    by_kind kinds.TypeTag some test = rw test refl
    by_kind kinds.Enum64 some test = rw test refl

-- no info word has the kind of void
is_some_kind : (info : ℕ) (kind : BtfKind) → info_kind info ≡ Some kind → 0 < kind_number kind
unfolding info_kind
is_some_kind info kind is = by_number (kind_number kind) refl
  where
    by_number : (n : ℕ) → kind_number kind ≡ n → 0 < kind_number kind
    by_number zero e =
        let none : info_kind_number info ≡ 0 = sym (kinds_by_number info kind is) ∙ e in
        let no = rw none at is in
        cc
    by_number (suc n) e = omega (arith, e)

pub starts_there : (o : Endianness) (part : List ℕ) (p : ℕ) (ts : List BtfType) (k : ℕ) (t : BtfType) → Tiled o part p ts → slice_get ts k ≡ Some t
    → slice_get (type_starts o part p ts) k ≡ Some (place p ts k)
starts_there o part p [] k t are is = cc
starts_there o part p (u ∷ us) zero t are is = refl
starts_there o part p (u ∷ us) (suc k) t are is =
    let ends : p + type_length u ≡ end_of o part p (kind_of u) = are.0.ends in
    let next : type_end o part p (kind_of u) ≡ p + type_length u =
    ends_there o part p (kind_of u) (is_some_kind (info_at o part p) (kind_of u) are.0.kind) (omega (arith, are.1)) ∙ sym ends in
    rw next (starts_there o part (p + type_length u) us k t are.2 is)

-- ---- with other words

-- a type whose words are as they were stays
pub type_kept : (o : Endianness) (part other : List ℕ) (p next : ℕ) (t : BtfType) → IsTypeAt o part p next t
    → ((q : ℕ) → p ≤ q → q + 4 ≤ next → word o other q ≡ word o part q) → IsTypeAt o other p next t
type_kept o part other p next t is same =
    let kind = kind_of t in
    let ends : next ≡ p + 12 + 4 * further_words kind (info_vlen (info_at o part p)) = is.ends in
    let info : word o other (p + 4) ≡ word o part (p + 4) = same (p + 4) (omega arith) (omega arith) in
    record {
      kind = ap info_kind info ∙ is.kind;
      words = is.words ∙ sym (spelled_same o part p other p kind (λ k within. same (p + k) (omega arith) (omega arith)));
      ends = ends ∙ ap (λ n. p + 12 + 4 * further_words kind (info_vlen n)) (sym info);
    }

types_kept : (o : Endianness) (part other : List ℕ) (p : ℕ) (ts : List BtfType) → length other ≡ length part
    → ((q : ℕ) → p ≤ q → word o other q ≡ word o part q) → Tiled o part p ts → Tiled o other p ts
types_kept o part other p [] long same are = are ∙ sym long
types_kept o part other p (t ∷ ts) long same are = (
  type_kept o part other p (p + type_length t) t are.0 (λ q from within. same q from),
  omega (arith, are.1),
  types_kept o part other (p + type_length t) ts long (λ q from. same q (omega arith)) are.2,
)

-- bytes that differ from others between two offsets alone
pub record Differs (o : Endianness) (part other : List ℕ) (from end : ℕ) : Type 0 where
  pub long : length other ≡ length part
  pub apart : (q : ℕ) → (q + 4 ≤ from) ⊎ (end ≤ q) → word o other q ≡ word o part q

-- where they differ in one type, that type is changed
pub type_changed : (o : Endianness) (part other : List ℕ) (p : ℕ) (ts : List BtfType) (k : ℕ) (t : BtfType) (f : BtfType → BtfType) → Tiled o part p ts
    → slice_get ts k ≡ Some t → Differs o part other (place p ts k) (place p ts k + type_length t) → type_length (f t) ≡ type_length t
    → IsTypeAt o other (place p ts k) (place p ts k + type_length t) (f t) → Tiled o other p (changed_at k f ts)
type_changed o part other p [] k t f are is differs long there = cc
type_changed o part other p (u ∷ us) zero t f are is differs long there =
    let same : t ≡ u = cc in
    let n : p + type_length (f u) ≡ p + type_length u = ap (λ v. p + type_length (f v)) (sym same) ∙ ap (λ m. p + m) long ∙ ap (λ v. p + type_length v) same in
    let whole : length other ≡ length part = differs.long in
    let here : IsTypeAt o other p (p + type_length u) (f u) = subst (λ (v : BtfType). IsTypeAt o other p (p + type_length v) (f v)) same there in
    let from : p + type_length u ≡ p + type_length t = ap (λ v. p + type_length v) (sym same) in
    let behind : Tiled o other (p + type_length u) us =
    types_kept o part other (p + type_length u) us whole (λ q after. differs.apart q (inr (omega arith))) are.2 in
    (subst (λ (m : ℕ). IsTypeAt o other p m (f u)) (sym n) here, omega (arith, are.1), subst (λ (m : ℕ). Tiled o other m us) (sym n) behind)
type_changed o part other p (u ∷ us) (suc k) t f are is differs long there =
    let after = not_before (p + type_length u) us k in (
      type_kept o part other p (p + type_length u) u are.0 (λ q from within. differs.apart q (inl (omega arith))),
      omega (arith, are.1, differs.long),
      type_changed o part other (p + type_length u) us k t f are.2 is differs long there,
    )

-- ---- types that are like others: of the same kinds and lengths, their parameters as they were or with names

abbrev pub params_of : BtfType → List BtfParam
params_of (FuncProto _ _ params) = params
params_of _ = []

abbrev pub ParamsLike : ℕ → List BtfParam → List BtfParam → Type 0
ParamsLike name [] [] = Unit {0}
ParamsLike name (p ∷ ps) (q ∷ qs) = ((q ≡ p) ⊎ (q ≡ named_param name p)) × ParamsLike name ps qs
ParamsLike name _ _ = ⊥

pub record IsLike (name : ℕ) (t u : BtfType) : Type 0 where
  pub kind : kind_of u ≡ kind_of t
  pub count : count_of u ≡ count_of t
  pub params : ParamsLike name (params_of t) (params_of u)

abbrev pub AreLike : ℕ → List BtfType → List BtfType → Type 0
AreLike name [] [] = Unit {0}
AreLike name (t ∷ ts) (u ∷ us) = IsLike name t u × AreLike name ts us
AreLike name _ _ = ⊥

params_like : (name : ℕ) (ps : List BtfParam) → ParamsLike name ps ps
params_like name [] = tt
params_like name (p ∷ ps) = (inl refl, params_like name ps)

pub like_itself : (name : ℕ) (ts : List BtfType) → AreLike name ts ts
like_itself name [] = tt
like_itself name (t ∷ ts) = (record { kind = refl; count = refl; params = params_like name (params_of t) }, like_itself name ts)

pub like_length : (name : ℕ) (t u : BtfType) → IsLike name t u → type_length u ≡ type_length t
unfolding type_length
like_length name t u like = λ i. 12 + 4 * further_words (like.kind i) (like.count i)

pub like_there : (name : ℕ) (ts us : List BtfType) (k : ℕ) (t : BtfType) → AreLike name ts us → slice_get ts k ≡ Some t
    → (u : BtfType) × (slice_get us k ≡ Some u) × IsLike name t u
like_there name [] us k t like is = cc
like_there name (v ∷ vs) [] k t like is = absurd like
like_there name (v ∷ vs) (u ∷ us) zero t like is = let same : v ≡ t = cc in (u, refl, subst (λ (w : BtfType). IsLike name w u) same like.0)
like_there name (v ∷ vs) (u ∷ us) (suc k) t like is = like_there name vs us k t like.1 is

-- the other way round
pub like_back : (name : ℕ) (ts us : List BtfType) (k : ℕ) (u : BtfType) → AreLike name ts us → slice_get us k ≡ Some u
    → (t : BtfType) × (slice_get ts k ≡ Some t) × IsLike name t u
like_back name ts [] k u like is = cc
like_back name [] (v ∷ vs) k u like is = absurd like
like_back name (t ∷ ts) (v ∷ vs) zero u like is = let same : v ≡ u = cc in (t, refl, subst (λ (w : BtfType). IsLike name t w) same like.0)
like_back name (t ∷ ts) (v ∷ vs) (suc k) u like is = like_back name ts vs k u like.1 is

pub like_place : (name : ℕ) (p : ℕ) (ts us : List BtfType) (k : ℕ) → AreLike name ts us → place p us k ≡ place p ts k
like_place name p [] [] k like = refl
like_place name p [] (u ∷ us) k like = absurd like
like_place name p (t ∷ ts) [] k like = absurd like
like_place name p (t ∷ ts) (u ∷ us) zero like = refl
like_place name p (t ∷ ts) (u ∷ us) (suc k) like =
    let n : p + type_length u ≡ p + type_length t = ap (λ m. p + m) (like_length name t u like.0) in
    ap (λ m. place m us k) n ∙ like_place name (p + type_length t) ts us k like.1

pub like_changed : (name : ℕ) (ts us : List BtfType) (k : ℕ) (t u : BtfType) (f : BtfType → BtfType) → AreLike name ts us → slice_get ts k ≡ Some t
    → slice_get us k ≡ Some u → IsLike name t (f u) → AreLike name ts (changed_at k f us)
like_changed name [] us k t u f like is now change = cc
like_changed name (v ∷ vs) [] k t u f like is now change = absurd like
like_changed name (v ∷ vs) (w ∷ ws) zero t u f like is now change =
    let first : t ≡ v = cc in
    let second : u ≡ w = cc in
    (rw (first, second) at change, like.1)
like_changed name (v ∷ vs) (w ∷ ws) (suc k) t u f like is now change = (like.0, like_changed name vs ws k t u f like.1 is now change)

-- a change that leaves a type as it is leaves all
pub unchanged : (k : ℕ) (f : BtfType → BtfType) (ts : List BtfType) → ((t : BtfType) → slice_get ts k ≡ Some t → f t ≡ t) → changed_at k f ts ≡ ts
unchanged k f [] same = refl
unchanged zero f (t ∷ ts) same = ap (λ u. u ∷ ts) (same t refl)
unchanged (suc k) f (t ∷ ts) same = ap (λ us. t ∷ us) (unchanged k f ts same)
