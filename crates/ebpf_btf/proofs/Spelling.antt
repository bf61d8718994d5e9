-- What is read is spelled so, and what is spelled so is read.
use Rattle.std.proofs.Common.{◌≡◌, ◌-◌, ◌+◌, ◌≤◌, ◌==◌, ℕ, zero, suc, Bool, true, false, List, [], ◌∷◌, length, Option, Some, None, Result, Ok, Err, IfOk, refl, ap, sym, ◌∙◌, arith, subst, nat_lt}
use Rattle.std.proofs.lemmas.Bool.Decides.{nat_tests}
use Rattle.std.proofs.lemmas.Option.{some_pair_parts}
use Rattle.ebpf_base.specs.Faults.{Gives}
use Rattle.ebpf_btf.specs.Memory.{is_btf_memory}
use Rattle.ebpf_base.specs.declared.endianness.Endianness.{Endianness}
use Rattle.ebpf_btf.specs.declared.error.BtfError.{BtfError}
use Rattle.ebpf_btf.specs.declared.kind.BtfKind.{BtfKind}
use Rattle.ebpf_btf.specs.declared.kind.BtfKind.TheVariants as kinds
use Rattle.ebpf_btf.specs.declared.types.BtfType.{BtfType}
use Rattle.ebpf_btf.specs.declared.types.BtfType.TheVariants.{Unknown}
use Rattle.ebpf_btf.specs.Format.{AreTypesAt, IsTypeAt, end_of, info_at, info_kind, spelled}
use Rattle.ebpf_btf.specs.Reading.{Spells, header_fault, strings_in, type_before, types_from, types_of, types_part, up_to, prepend_types, with_strings, type_info_of}
use Rattle.ebpf_btf.specs.Next.{if_some}
use Rattle.ebpf_btf.specs.TypeInfo.{TypeInfo}
use Rattle.ebpf_btf.specs.Types.{kind_of}

-- ---- one type

pub kind_of_spelled : (o : Endianness) (bytes : List ℕ) (offset : ℕ) (kind : BtfKind) → kind_of (spelled o bytes offset kind) ≡ kind
unfolding kind_of spelled
kind_of_spelled o bytes offset kinds.Unknown = refl
kind_of_spelled o bytes offset kinds.Int = refl
kind_of_spelled o bytes offset kinds.Ptr = refl
kind_of_spelled o bytes offset kinds.Array = refl
kind_of_spelled o bytes offset kinds.Struct = refl
kind_of_spelled o bytes offset kinds.Union = refl
kind_of_spelled o bytes offset kinds.Enum = refl
kind_of_spelled o bytes offset kinds.Fwd = refl
kind_of_spelled o bytes offset kinds.Typedef = refl
kind_of_spelled o bytes offset kinds.Volatile = refl
kind_of_spelled o bytes offset kinds.Const = refl
kind_of_spelled o bytes offset kinds.Restrict = refl
kind_of_spelled o bytes offset kinds.Func = refl
kind_of_spelled o bytes offset kinds.FuncProto = refl
kind_of_spelled o bytes offset kinds.Var = refl
kind_of_spelled o bytes offset kinds.DataSec = refl
kind_of_spelled o bytes offset kinds.Float = refl
kind_of_spelled o bytes offset kinds.DeclTag = refl
kind_of_spelled o bytes offset kinds.TypeTag = refl
kind_of_spelled o bytes offset kinds.Enum64 = refl

-- a type that is read is spelled so
pub type_is : (o : Endianness) (bytes : List ℕ) (offset : ℕ) (t : BtfType) (next : ℕ)
    → type_before o bytes offset ≡ Some (t, next) → IsTypeAt o bytes offset next t × (next ≤ length bytes)
unfolding type_before
type_is o bytes offset t next here = by_head (nat_lt (length bytes) (offset + 12)) refl
  where
    by_end : (kind : BtfKind) (b : Bool) → info_kind (info_at o bytes offset) ≡ Some kind → nat_lt (length bytes) (end_of o bytes offset kind) ≡ b
        → up_to o bytes offset kind ≡ Some (t, next) → IsTypeAt o bytes offset next t × (next ≤ length bytes)
    by_end kind true is_kind past is = let none = rw past at is in cc
    by_end kind false is_kind past is =
        let parts = some_pair_parts (spelled o bytes offset kind) t (end_of o bytes offset kind) next (rw past at is) in
        let type : t ≡ spelled o bytes offset kind = sym parts.0 in
        let ends : next ≡ end_of o bytes offset kind = sym parts.1 in
        let k : kind_of t ≡ kind = ap kind_of type ∙ kind_of_spelled o bytes offset kind in
        (record { kind = rw k is_kind; words = rw k type; ends = rw k ends }, rw ends (grind (arith, nat_tests)))

    by_kind : (k : Option BtfKind) → info_kind (info_at o bytes offset) ≡ k
        → if_some k (λ kind. up_to o bytes offset kind) None ≡ Some (t, next) → IsTypeAt o bytes offset next t × (next ≤ length bytes)
    by_kind None e is = cc
    by_kind (Some kind) e is = by_end kind (nat_lt (length bytes) (end_of o bytes offset kind)) e refl is

    by_head : (b : Bool) → nat_lt (length bytes) (offset + 12) ≡ b → IsTypeAt o bytes offset next t × (next ≤ length bytes)
    by_head true e = let none = rw e at here in cc
    by_head false e = by_kind (info_kind (info_at o bytes offset)) refl (rw e at here)

-- a type that is spelled so is read
pub type_again : (o : Endianness) (bytes : List ℕ) (offset : ℕ) (t : BtfType) (next : ℕ)
    → IsTypeAt o bytes offset next t → next ≤ length bytes → type_before o bytes offset ≡ Some (t, next)
unfolding type_before
type_again o bytes offset t next is within =
    let ends : next ≡ end_of o bytes offset (kind_of t) = is.ends in
    let head : nat_lt (length bytes) (offset + 12) ≡ false = grind (arith, nat_tests) in
    let whole : nat_lt (length bytes) (end_of o bytes offset (kind_of t)) ≡ false = grind (arith, nat_tests) in
    rw (head, is.kind, whole) (ap Some (same _ _ _ _ (sym is.words) (sym ends)))
  where
    same : (a b : BtfType) (m n : ℕ) → a ≡ b → m ≡ n → ◌≡◌ {A = BtfType × ℕ} (a, m) (b, n)
    same a b m n p q = cc

-- ---- types one after the other

split_front : (t : BtfType) (rest : Option (List BtfType)) (ts : List BtfType) → prepend_types (t ∷ []) rest ≡ Some ts
    → (more : List BtfType) × (rest ≡ Some more) × (ts ≡ t ∷ more)
split_front t None ts is = cc
split_front t (Some more) ts is = (more, refl, cc)

types_are : (n : ℕ) (o : Endianness) (bytes : List ℕ) (offset : ℕ) (ts : List BtfType)
    → types_from n o bytes offset ≡ Some ts → AreTypesAt o bytes offset ts
unfolding types_from
types_are zero o bytes offset ts is = by_end (offset == length bytes) refl
  where
    by_end : (b : Bool) → (offset == length bytes) ≡ b → AreTypesAt o bytes offset ts
    by_end true e =
        let none : ts ≡ [] = cc (rw e at is) in
        rw none (grind (arith, nat_tests))
    by_end false e = let no = rw e at is in cc
types_are (suc n) o bytes offset ts is =
    by_end (λ next more. types_are n o bytes next more) (offset == length bytes) refl
  where
    Again : Type 0
    Again = (next : ℕ) (more : List BtfType) → types_from n o bytes next ≡ Some more → AreTypesAt o bytes next more

    by_found : Again → (r : Option (BtfType × ℕ)) → type_before o bytes offset ≡ r
        → if_some r (λ found. prepend_types (found.0 ∷ []) (types_from n o bytes found.1)) None ≡ Some ts → AreTypesAt o bytes offset ts
    by_found again None e same = cc
    by_found again (Some found) e same =
        let parts = split_front found.0 (types_from n o bytes found.1) ts same in
        let first = type_is o bytes offset found.0 found.1 e in
        rw parts.2 (found.1, first.0, first.1, again found.1 parts.0 parts.1)

    by_end : Again → (b : Bool) → (offset == length bytes) ≡ b → AreTypesAt o bytes offset ts
    by_end again true e =
        let none : ts ≡ [] = cc (rw e at is) in
        rw none (grind (arith, nat_tests))
    by_end again false e = by_found again (type_before o bytes offset) refl (rw e at is)

types_again : (ts : List BtfType) (n : ℕ) (o : Endianness) (bytes : List ℕ) (offset : ℕ)
    → AreTypesAt o bytes offset ts → length bytes - offset ≤ n → types_from n o bytes offset ≡ Some ts
unfolding types_from
types_again [] zero o bytes offset are some =
    let here : (offset == length bytes) ≡ true = grind (arith, nat_tests) in
    rw here refl
types_again [] (suc n) o bytes offset are some =
    let here : (offset == length bytes) ≡ true = grind (arith, nat_tests) in
    rw here refl
types_again (t ∷ ts) zero o bytes offset are some =
    let ends = are.1.ends in
    absurd (omega (arith, are.2))
types_again (t ∷ ts) (suc n) o bytes offset are some =
    let ends = are.1.ends in
    let within : are.0 ≤ length bytes = are.2 in
    let before : (offset == length bytes) ≡ false = grind (arith, nat_tests) in
    let first = type_again o bytes offset t are.0 are.1 are.2 in
    let rest = types_again ts n o bytes are.0 are.3 (omega arith) in
    rw (before, first, rest) refl

-- ---- the whole

pub all_are : (o : Endianness) (part : List ℕ) (ts : List BtfType) → types_of o part ≡ Some ts → AreTypesAt o part 0 ts
unfolding types_of
all_are o part ts is = types_are (length part) o part 0 ts is

pub all_again : (o : Endianness) (part : List ℕ) (ts : List BtfType) → AreTypesAt o part 0 ts → types_of o part ≡ Some ts
unfolding types_of
all_again o part ts are = types_again ts (length part) o part 0 are (omega arith)

found_from : (o : Endianness) (bytes : List ℕ) (info : TypeInfo) → type_info_of o bytes ≡ Ok info → Spells o bytes info
unfolding type_info_of
found_from o bytes info is = by_header (header_fault o bytes) refl
  where
    by_types : (r : Option (List BtfType)) → types_of o (types_part o bytes) ≡ r → header_fault o bytes ≡ None
        → with_strings o bytes (prepend_types (Unknown ∷ []) r) ≡ Ok info → Spells o bytes info
    by_types None e sound same = cc
    by_types (Some ts) e sound same =
        let whole : info ≡ record { types = Unknown ∷ ts; strings = strings_in o bytes } = cc in
        rw whole (record {
          header = sound;
          types = (ts, refl, all_are o (types_part o bytes) ts e);
          strings = refl;
        })

    by_header : (h : Option BtfError) → header_fault o bytes ≡ h → Spells o bytes info
    by_header None e = by_types (types_of o (types_part o bytes)) refl e (rw e at is)
    by_header (Some fault) e = let no = rw e at is in cc

pub again_from : (o : Endianness) (bytes : List ℕ) (info : TypeInfo) → Spells o bytes info → type_info_of o bytes ≡ Ok info
unfolding type_info_of
again_from o bytes info is =
    let ts = is.types.0 in
    let all = all_again o (types_part o bytes) ts is.types.2 in
    rw (is.header, all) (ap Ok (same info ts is.types.1 is.strings))
  where
    same : (info : TypeInfo) (ts : List BtfType) → info.types ≡ Unknown ∷ ts → info.strings ≡ strings_in o bytes
        → record { types = Unknown ∷ ts; strings = strings_in o bytes } ≡ info
    same info ts p q = rw (← p, ← q) refl

-- what is read is spelled so
pub found_spelled : (o : Endianness) (bytes : List ℕ) (r : Result TypeInfo BtfError) → Gives is_btf_memory r (type_info_of o bytes) → IfOk r (λ info. Spells o bytes info)
found_spelled o bytes (Ok info) is = found_from o bytes info is
found_spelled o bytes (Err e) is = tt

-- what is spelled so is read
pub only_spelled : (o : Endianness) (bytes : List ℕ) (r : Result TypeInfo BtfError) → Gives is_btf_memory r (type_info_of o bytes)
    → (info : TypeInfo) → Spells o bytes info → Gives is_btf_memory r (Ok info)
only_spelled o bytes r is info spells = subst (λ (s : Result TypeInfo BtfError). Gives is_btf_memory r s) (again_from o bytes info spells) is
