-- Types by their heads, and the lowest id of a kind and a name.
use Rattle.std.proofs.Common.{◌≡◌, ◌<◌, ◌+◌, ℕ, zero, suc, Bool, true, false, cond, List, [], ◌∷◌, length, drop, Option, Some, None, refl, sym, ap, ◌∙◌, slice_get, arith}
use Rattle.std.specs.Prelude.{option_map, ◌==◌, ◌&&◌, if◌then◌else◌}
use Rattle.std.specs.List.{position_from}
use Rattle.std.specs.Option.{option_map_or}
use Rattle.ebpf_btf.specs.Strings.{is_named, is_text, text_at, type_name}
use Rattle.ebpf_btf.specs.TypeInfo.{TypeInfo}
use Rattle.ebpf_btf.specs.Types.{is_kind, kind_number, kind_of, name_off}
use Rattle.ebpf_btf.specs.declared.kind.BtfKind.{BtfKind}
use Rattle.ebpf_btf.specs.declared.kind.BtfKind.TheVariants as kinds
use Rattle.ebpf_btf.specs.declared.types.BtfType.{BtfType}
use Rattle.ebpf_btf.specs.declared.view.TypeHead.{TypeHead}
use Rattle.ebpf_load_info.specs.KernelNumbers.{enumerators_of, named_enumerators}
use Rattle.ebpf_load_info.specs.PrivateContracts.{is_enum_at, named_at, named_by}

module _ (types : TypeInfo) (name : List ℕ) (kind : BtfKind) (id : ℕ) where
  pub named_by_head : (head : TypeHead) → option_map (λ (h : TypeHead). h.kind) (Some head) ≡ option_map kind_of (slice_get types.types id)
      → option_map (λ (h : TypeHead). h.name_offset) (Some head) ≡ option_map name_off (slice_get types.types id)
      → named_by types name kind head ≡ named_at types name kind id
  named_by_head head kinds names = by_type (slice_get types.types id) kinds names
    where
      by_type : (o : Option BtfType) → ◌≡◌ {A = Option BtfKind} (Some head.kind) (option_map kind_of o) → Some head.name_offset ≡ option_map name_off o
          → named_by types name kind head ≡ option_map_or (is_named types name kind) o false
      by_type None same_kind same_name = cc
      by_type (Some t) same_kind same_name =
          let k : head.kind ≡ kind_of t = cc in
          let n : head.name_offset ≡ name_off t = cc in
          ap (λ x. kind_number x == kind_number kind && is_text name (text_at types.strings head.name_offset)) k
          ∙ ap (λ x. is_kind kind t && is_text name (text_at types.strings x)) n

  pub none_by_head : ◌≡◌ {A = Option BtfKind} None (option_map kind_of (slice_get types.types id)) → false ≡ named_at types name kind id
  none_by_head kinds = by_type (slice_get types.types id) kinds
    where
      by_type : (o : Option BtfType) → ◌≡◌ {A = Option BtfKind} None (option_map kind_of o) → false ≡ option_map_or (is_named types name kind) o false
      by_type None same = refl
      by_type (Some t) same = cc

-- ---- an ENUM by its head

pub no_enumeration : (types : TypeInfo) (id : ℕ) (t : BtfType) → slice_get types.types id ≡ Some t → is_enum_at types id ≡ false
    → (name : List ℕ) → named_enumerators types name t ≡ None
no_enumeration types id t at other name =
    ap (λ b. if b && is_text name (type_name types t) then Some (enumerators_of t) else None)
    (sym (ap (λ o. option_map_or (is_kind kinds.Enum) o false) at) ∙ other)

-- ---- one id more

pub there : {X : Type 0} (xs : List X) (i : ℕ) → i < length xs → (x : X) × (slice_get xs i ≡ Some x)
there [] i inside = absurd (omega arith)
there (x ∷ xs) zero inside = (x, refl)
there (x ∷ xs) (suc i) inside = there xs i (omega arith)

pub here_and_rest : {X : Type 0} (xs : List X) (i : ℕ) (x : X) → slice_get xs i ≡ Some x → drop i xs ≡ x ∷ drop (i + 1) xs
here_and_rest [] i x at = cc
here_and_rest (y ∷ xs) zero x at = let same : y ≡ x = cc in ap (λ z. z ∷ xs) same
here_and_rest (y ∷ xs) (suc i) x at =
    let on : suc (i + 1) ≡ suc i + 1 = omega arith in
    here_and_rest xs i x at ∙ ap (λ n. x ∷ drop n (y ∷ xs)) on

module _ {X : Type 0} (p : X → Bool) (xs : List X) (i n : ℕ) (inside : i < length xs) where
  by_item : (b : Bool) → b ≡ option_map_or p (slice_get xs i) false → position_from p n (drop i xs) ≡ cond b (Some n) (position_from p (n + 1) (drop (i + 1) xs))
  by_item b is =
      let (x, at) = there xs i inside in
      ap (position_from p n) (here_and_rest xs i x at)
      ∙ ap (λ c. cond c (Some n) (position_from p (n + 1) (drop (i + 1) xs))) (sym (is ∙ ap (λ o. option_map_or p o false) at))

  -- the first of those that are left is found, or is further on
  pub first_here : true ≡ option_map_or p (slice_get xs i) false → position_from p n (drop i xs) ≡ Some n
  first_here is = by_item true is

  pub further : false ≡ option_map_or p (slice_get xs i) false → position_from p n (drop i xs) ≡ position_from p (n + 1) (drop (i + 1) xs)
  further is = by_item false is
