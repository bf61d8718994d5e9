-- Relocations one after the other, of which k are read.
use Rattle.std.proofs.Common.{◌≡◌, ◌-◌, ◌+◌, ◌<◌, ℕ, suc, Bool, true, false, List, [], ◌∷◌, ◌++◌, map, Result, Ok, Err, MatchBool, refl, ap, sym, ◌∙◌, arith, append_assoc, None, Some, subst, ◌&&◌, ◌==◌, if◌then◌else◌}
use Rattle.std.proofs.lemmas.Bool.{and_parts}
use Rattle.std.proofs.lemmas.Bool.Decides.{nat_tests}
use Rattle.std.specs.Prelude.{⊤}
use Rattle.std.specs.List.{range_with_len}
use Rattle.ebpf_base.specs.Faults.{if_ok}
use Rattle.ebpf_btf.proofs.KindRows.{in_table}
use Rattle.ebpf_btf.specs.Memory.{is_btf_memory}
use Rattle.ebpf_btf.specs.declared.error.BtfError.{BtfError}
use Rattle.ebpf_btf_ext.specs.ExtFormat.{all_ok, core_relo_at, core_relos_at}
use Rattle.ebpf_btf_ext.specs.PrivateContracts.{prepended}
use Rattle.ebpf_btf_ext.specs.RelocationKinds.{known_kind, relocation_kind, relocation_kind_number, NumbersOfRelocationKinds, RelocationKindsByNumber}
use Rattle.ebpf_btf_ext.specs.declared.relocation.RelocationKind.{RelocationKind}
use Rattle.ebpf_btf_ext.specs.declared.relocation.RelocationKind.TheVariants as kinds

after_none : {X : Type 0} (r : Result (List X) BtfError) → prepended [] r ≡ r
after_none (Ok xs) = refl
after_none (Err e) = refl

after_one : {X : Type 0} (front : List X) (x : X) (r : Result (List X) BtfError)
    → prepended (front ++ x ∷ []) r ≡ prepended front (if_ok r (λ xs. Ok (x ∷ xs)))
after_one front x (Ok xs) = ap Ok (append_assoc front (x ∷ []) xs)
after_one front x (Err e) = refl

opens : (k n : ℕ) → k < n → range_with_len k (n - k) ≡ k ∷ range_with_len (k + 1) (n - (k + 1))
opens k n below =
    let more : n - k ≡ suc (n - (k + 1)) = omega arith in
    rw more refl

pub relocations_none : (type_matches : Bool) (bytes : List ℕ) (size offset n : ℕ)
    → prepended [] (all_ok (map (core_relo_at type_matches bytes size offset) (range_with_len 0 (n - 0)))) ≡ core_relos_at type_matches bytes size offset n
unfolding core_relos_at
relocations_none type_matches bytes size offset n =
    let all : n - 0 ≡ n = omega arith in
    rw all (after_none (all_ok (map (core_relo_at type_matches bytes size offset) (range_with_len 0 n))))

pub list_more : {X : Type 0} (f : ℕ → Result X BtfError) (k n : ℕ) (front : List X) (x : X) → k < n → f k ≡ Ok x
    → prepended (front ++ x ∷ []) (all_ok (map f (range_with_len (k + 1) (n - (k + 1))))) ≡ prepended front (all_ok (map f (range_with_len k (n - k))))
list_more f k n front x below here = rw (opens k n below, here) (after_one front x (all_ok (map f (range_with_len (k + 1) (n - (k + 1))))))

pub list_cut : {X : Type 0} (f : ℕ → Result X BtfError) (k n : ℕ) (front : List X) (all : Result (List X) BtfError) (e : BtfError) → k < n
    → prepended front (all_ok (map f (range_with_len k (n - k)))) ≡ all → f k ≡ Err e → MatchBool (is_btf_memory e) ⊤ (all ≡ Err e)
list_cut f k n front all e below rest here = either (is_btf_memory e) (sym rest ∙ rw (opens k n below, here) refl)
  where
    either : (b : Bool) → all ≡ Err e → MatchBool b ⊤ (all ≡ Err e)
    either true same = tt
    either false same = same

-- ---- the tables of kinds of relocations and of their numbers, row by row

by_table : (n : ℕ) (kind : RelocationKind) → relocation_kind n ≡ Some kind → relocation_kind_number kind ≡ n
unfolding relocation_kind relocation_kind_number
by_table n kind is =
    (in_table n 0 kinds.FieldByteOffset _ relocation_kind_number kind refl
    (in_table n 1 kinds.FieldByteSize _ relocation_kind_number kind refl
    (in_table n 2 kinds.FieldExists _ relocation_kind_number kind refl
    (in_table n 3 kinds.FieldSigned _ relocation_kind_number kind refl
    (in_table n 4 kinds.FieldLShift64 _ relocation_kind_number kind refl
    (in_table n 5 kinds.FieldRShift64 _ relocation_kind_number kind refl
    (in_table n 6 kinds.TypeIdLocal _ relocation_kind_number kind refl
    (in_table n 7 kinds.TypeIdTarget _ relocation_kind_number kind refl
    (in_table n 8 kinds.TypeExists _ relocation_kind_number kind refl
    (in_table n 9 kinds.TypeSize _ relocation_kind_number kind refl
    (in_table n 10 kinds.EnumVariantExists _ relocation_kind_number kind refl
    (in_table n 11 kinds.EnumVariantValue _ relocation_kind_number kind refl
    (λ (none : None ≡ Some kind). cc))))))))))))) is

twelfth : (b : Bool) (n : ℕ) (kind : RelocationKind) → (b ≡ true → n ≡ 12) → (if b then Some kinds.TypeMatches else relocation_kind n) ≡ Some kind → relocation_kind_number kind ≡ n
unfolding relocation_kind_number
twelfth true n kind counted is =
    let same : kinds.TypeMatches ≡ kind = cc in
    rw (← same, counted refl) refl
twelfth false n kind counted is = by_table n kind is

is_12 : (type_matches : Bool) (n : ℕ) → (type_matches && n == 12) ≡ true → n ≡ 12
is_12 type_matches n is = let at : (n == 12) ≡ true = (and_parts type_matches (n == 12) is).1 in grind (arith, nat_tests)

pub relocation_kinds_by_number : RelocationKindsByNumber
unfolding known_kind
relocation_kinds_by_number type_matches n kind is = twelfth (type_matches && n == 12) n kind (is_12 type_matches n) is

-- ---- what is read without kind 12 is read with it

past_none : (n : ℕ) (kind : RelocationKind) → n ≡ 12 → relocation_kind n ≡ Some kind → ⊥
unfolding relocation_kind
past_none n kind at is = let no : None ≡ Some kind = subst (λ m. relocation_kind m ≡ Some kind) at is in cc

either_known : (b : Bool) (n : ℕ) (kind : RelocationKind) → (b ≡ true → n ≡ 12) → relocation_kind n ≡ Some kind → (if b then Some kinds.TypeMatches else relocation_kind n) ≡ Some kind
either_known true n kind counted is = absurd (past_none n kind (counted refl) is)
either_known false n kind counted is = is

pub known_with : (n : ℕ) (kind : RelocationKind) → known_kind false n ≡ Some kind → known_kind true n ≡ Some kind
unfolding known_kind
known_with n kind is = either_known (n == 12) n kind (λ at. is_12 true n at) is

pub numbers_of_relocation_kinds : NumbersOfRelocationKinds
unfolding known_kind relocation_kind relocation_kind_number
numbers_of_relocation_kinds kinds.FieldByteOffset = refl
numbers_of_relocation_kinds kinds.FieldByteSize = refl
numbers_of_relocation_kinds kinds.FieldExists = refl
numbers_of_relocation_kinds kinds.FieldSigned = refl
numbers_of_relocation_kinds kinds.FieldLShift64 = refl
numbers_of_relocation_kinds kinds.FieldRShift64 = refl
numbers_of_relocation_kinds kinds.TypeIdLocal = refl
numbers_of_relocation_kinds kinds.TypeIdTarget = refl
numbers_of_relocation_kinds kinds.TypeExists = refl
numbers_of_relocation_kinds kinds.TypeSize = refl
numbers_of_relocation_kinds kinds.EnumVariantExists = refl
numbers_of_relocation_kinds kinds.EnumVariantValue = refl
numbers_of_relocation_kinds kinds.TypeMatches = refl
