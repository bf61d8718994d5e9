-- Types one after the other, up to the end.
use Rattle.std.proofs.Common.{◌≡◌, ◌-◌, ◌+◌, ◌<◌, ◌≤◌, ◌==◌, ℕ, zero, suc, Bool, true, false, List, [], ◌∷◌, ◌++◌, length, map, Option, Some, None, refl, ap, sym, ◌∙◌, arith, append_assoc, append-nil, subst, nat_lt}
use Rattle.std.specs.Prelude.{option_map}
use Rattle.std.proofs.lemmas.Bool.Decides.{nat_tests}
use Rattle.std.proofs.lemmas.List.{map-append}
use Rattle.ebpf_base.specs.declared.endianness.Endianness.{Endianness}
use Rattle.ebpf_btf.specs.declared.kind.BtfKind.{BtfKind}
use Rattle.ebpf_btf.specs.declared.types.BtfType.{BtfType}
use Rattle.ebpf_btf.specs.Format.{end_of, info_at, info_kind}
use Rattle.ebpf_btf.specs.Offsets.{types_here, type_here}
use Rattle.ebpf_btf.specs.Reading.{type_before, types_from, types_of, up_to, prepend_types}
use Rattle.ebpf_btf.specs.Next.{if_some}

-- a type that is read ends after its offset and not past the end
pub ends_within : (o : Endianness) (bytes : List ℕ) (offset : ℕ) (found : BtfType × ℕ)
    → type_before o bytes offset ≡ Some found → (offset < found.1) × (found.1 ≤ length bytes)
unfolding type_before
ends_within o bytes offset found here = by_head (nat_lt (length bytes) (offset + 12)) refl
  where
    by_end : (kind : BtfKind) (b : Bool) → nat_lt (length bytes) (end_of o bytes offset kind) ≡ b → up_to o bytes offset kind ≡ Some found → (offset < found.1) × (found.1 ≤ length bytes)
    by_end kind true e is = cc
    by_end kind false e is = grind (arith, nat_tests, rw e at is)

    by_kind : (k : Option BtfKind) → if_some k (λ kind. up_to o bytes offset kind) None ≡ Some found → (offset < found.1) × (found.1 ≤ length bytes)
    by_kind None is = cc
    by_kind (Some kind) is = by_end kind (nat_lt (length bytes) (end_of o bytes offset kind)) refl is

    by_head : (b : Bool) → nat_lt (length bytes) (offset + 12) ≡ b → (offset < found.1) × (found.1 ≤ length bytes)
    by_head true e = let none = rw e at here in cc
    by_head false e = by_kind (info_kind (info_at o bytes offset)) (rw e at here)

-- a higher bound on how many they are changes nothing
enough : (m n : ℕ) (o : Endianness) (bytes : List ℕ) (offset : ℕ) → offset ≤ length bytes → length bytes - offset ≤ m → length bytes - offset ≤ n
    → types_from m o bytes offset ≡ types_from n o bytes offset
unfolding types_from
enough zero zero o bytes offset low some other = refl
enough zero (suc n) o bytes offset low some other =
    let here : (offset == length bytes) ≡ true = grind (arith, nat_tests) in
    rw here refl
enough (suc m) zero o bytes offset low some other =
    let here : (offset == length bytes) ≡ true = grind (arith, nat_tests) in
    rw here refl
enough (suc m) (suc n) o bytes offset low some other =
    by_end (λ next within fewer others. enough m n o bytes next within fewer others) (offset == length bytes) refl
  where
    Again : Type 0
    Again = (next : ℕ) → next ≤ length bytes → length bytes - next ≤ m → length bytes - next ≤ n → types_from m o bytes next ≡ types_from n o bytes next

    by_found : Again → (r : Option (BtfType × ℕ)) → type_before o bytes offset ≡ r → (offset == length bytes) ≡ false
        → if_some r (λ found. prepend_types (found.0 ∷ []) (types_from m o bytes found.1)) None
        ≡ if_some r (λ found. prepend_types (found.0 ∷ []) (types_from n o bytes found.1)) None
    by_found again None e more = refl
    by_found again (Some found) e more =
        let within = ends_within o bytes offset found e in
        ap (prepend_types (found.0 ∷ [])) (again found.1 within.1 (omega (arith, within.0)) (omega (arith, within.0)))

    by_end : Again → (b : Bool) → (offset == length bytes) ≡ b → types_from (suc m) o bytes offset ≡ types_from (suc n) o bytes offset
    by_end again true e = rw e refl
    by_end again false e = rw e (by_found again (type_before o bytes offset) refl e)

-- ---- the types from an offset on, in a loop that has read some

front_front : (xs : List BtfType) (t : BtfType) (rest : Option (List BtfType))
    → prepend_types (xs ++ t ∷ []) rest ≡ prepend_types xs (prepend_types (t ∷ []) rest)
front_front xs t None = refl
front_front xs t (Some ts) = ap Some (append_assoc xs (t ∷ []) ts)

-- at the end none is left
pub types_over : (o : Endianness) (bytes : List ℕ) (offset : ℕ) (xs : List BtfType) → offset ≡ length bytes
    → prepend_types xs (types_from (length bytes - offset) o bytes offset) ≡ Some xs
unfolding types_from
types_over o bytes offset xs here =
    let none : length bytes - offset ≡ zero = omega arith in
    let same : (offset == length bytes) ≡ true = grind (arith, nat_tests) in
    rw (none, same) (ap Some (append-nil xs))

opens : (o : Endianness) (bytes : List ℕ) (offset : ℕ) → offset < length bytes
    → types_from (length bytes - offset) o bytes offset
    ≡ if_some (type_before o bytes offset) (λ found. prepend_types (found.0 ∷ []) (types_from (length bytes - offset - 1) o bytes found.1)) None
unfolding types_from
opens o bytes offset more =
    let next : length bytes - offset ≡ suc (length bytes - offset - 1) = omega arith in
    let before : (offset == length bytes) ≡ false = grind (arith, nat_tests) in
    subst (λ n. types_from n o bytes offset ≡ if_some (type_before o bytes offset) (λ found. prepend_types (found.0 ∷ []) (types_from (length bytes - offset - 1) o bytes found.1)) None) (sym next) (rw before refl)

-- a type that is read is the first of them
types_more : (o : Endianness) (bytes : List ℕ) (offset : ℕ) (xs : List BtfType) (t : BtfType) (next : ℕ)
    → offset < length bytes → type_before o bytes offset ≡ Some (t, next)
    → prepend_types (xs ++ t ∷ []) (types_from (length bytes - next) o bytes next) ≡ prepend_types xs (types_from (length bytes - offset) o bytes offset)
types_more o bytes offset xs t next more here =
    let within = ends_within o bytes offset (t, next) here in
    let same = enough (length bytes - offset - 1) (length bytes - next) o bytes next within.1 (omega (arith, within.0)) (omega arith) in
    rw (opens o bytes offset more, here, same) (front_front xs t _)

-- where none can be read, they are none
types_cut : (o : Endianness) (bytes : List ℕ) (offset : ℕ) (xs : List BtfType)
    → offset < length bytes → type_before o bytes offset ≡ None
    → prepend_types xs (types_from (length bytes - offset) o bytes offset) ≡ None
types_cut o bytes offset xs more cut = rw (opens o bytes offset more, cut) refl

-- ---- the same by offsets

pub offsets_begin : (o : Endianness) (bytes : List ℕ) → prepend_types (types_here o bytes []) (types_from (length bytes - 0) o bytes 0) ≡ types_of o bytes
unfolding types_here types_of
offsets_begin o bytes =
    let all : length bytes - 0 ≡ length bytes = omega arith in
    rw all (whole (types_from (length bytes) o bytes 0))
  where
    whole : (r : Option (List BtfType)) → prepend_types [] r ≡ r
    whole None = refl
    whole (Some ts) = refl

-- the offset of a type that is read is the next of the offsets
pub offsets_more : (o : Endianness) (bytes offsets : List ℕ) (offset next : ℕ) (r : Option ℕ)
    → offset < length bytes → type_before o bytes offset ≡ option_map (λ n. (type_here o bytes offset, n)) r → r ≡ Some next
    → prepend_types (types_here o bytes offsets) (types_from (length bytes - offset) o bytes offset) ≡ types_of o bytes
    → prepend_types (types_here o bytes (offsets ++ offset ∷ [])) (types_from (length bytes - next) o bytes next) ≡ types_of o bytes
unfolding types_here
offsets_more o bytes offsets offset next r more is some rest =
    let here : type_before o bytes offset ≡ Some (type_here o bytes offset, next) = rw some at is in
    rw (map-append (type_here o bytes) offsets (offset ∷ [])) (types_more o bytes offset (map (type_here o bytes) offsets) (type_here o bytes offset) next more here ∙ rest)

pub offsets_cut : (o : Endianness) (bytes offsets : List ℕ) (offset : ℕ) (r : Option ℕ)
    → offset < length bytes → type_before o bytes offset ≡ option_map (λ n. (type_here o bytes offset, n)) r → r ≡ None
    → prepend_types (types_here o bytes offsets) (types_from (length bytes - offset) o bytes offset) ≡ types_of o bytes
    → types_of o bytes ≡ None
offsets_cut o bytes offsets offset r more is none rest =
    let cut : type_before o bytes offset ≡ None = rw none at is in
    sym rest ∙ types_cut o bytes offset (types_here o bytes offsets) more cut
