-- The tables of kinds and of their numbers, row by row.
use Rattle.std.proofs.Common.{◌≡◌, ◌==◌, ℕ, Bool, true, false, cond, Option, Some, None, refl, sym, ap, ◌∙◌, arith}
use Rattle.std.proofs.lemmas.Bool.Decides.{nat_tests}
use Rattle.ebpf_btf.specs.declared.kind.BtfKind.TheVariants as kinds
use Rattle.ebpf_btf.specs.Format.{info_kind, info_kind_number, KindsByNumber, NumbersOfKinds}
use Rattle.ebpf_btf.specs.Types.{kind_number}

-- a row of a table, and what is known of the rows after it
pub in_table : {K : Type 0} (n row : ℕ) (there : K) (rest : Option K) (number : K → ℕ) (kind : K) → number there ≡ row
    → (rest ≡ Some kind → number kind ≡ n) → cond (n == row) (Some there) rest ≡ Some kind → number kind ≡ n
in_table {K} n row there rest number kind has others is = by_test (n == row) refl is
  where
    by_test : (b : Bool) → (n == row) ≡ b → cond b (Some there) rest ≡ Some kind → number kind ≡ n
    by_test true e same =
        let found : there ≡ kind = cc in
        let at : n ≡ row = grind (arith, nat_tests) in
        ap number (sym found) ∙ has ∙ sym at
    by_test false e same = others same

pub kinds_by_number : KindsByNumber
unfolding info_kind kind_number
kinds_by_number info kind is =
    let n = info_kind_number info in
    (in_table n 1 kinds.Int _ kind_number kind refl
    (in_table n 2 kinds.Ptr _ kind_number kind refl
    (in_table n 3 kinds.Array _ kind_number kind refl
    (in_table n 4 kinds.Struct _ kind_number kind refl
    (in_table n 5 kinds.Union _ kind_number kind refl
    (in_table n 6 kinds.Enum _ kind_number kind refl
    (in_table n 7 kinds.Fwd _ kind_number kind refl
    (in_table n 8 kinds.Typedef _ kind_number kind refl
    (in_table n 9 kinds.Volatile _ kind_number kind refl
    (in_table n 10 kinds.Const _ kind_number kind refl
    (in_table n 11 kinds.Restrict _ kind_number kind refl
    (in_table n 12 kinds.Func _ kind_number kind refl
    (in_table n 13 kinds.FuncProto _ kind_number kind refl
    (in_table n 14 kinds.Var _ kind_number kind refl
    (in_table n 15 kinds.DataSec _ kind_number kind refl
    (in_table n 16 kinds.Float _ kind_number kind refl
    (in_table n 17 kinds.DeclTag _ kind_number kind refl
    (in_table n 18 kinds.TypeTag _ kind_number kind refl
    (in_table n 19 kinds.Enum64 _ kind_number kind refl
    (λ (none : None ≡ Some kind). cc)))))))))))))))))))) is

pub numbers_of_kinds : NumbersOfKinds
unfolding info_kind kind_number
numbers_of_kinds info kinds.Unknown some is = absurd (omega arith)
numbers_of_kinds info _ some is = rw is refl
