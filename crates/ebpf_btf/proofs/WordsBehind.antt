-- Words at offsets of longer bytes.
use Rattle.std.proofs.Common.{◌≡◌, ◌+◌, ◌≤◌, ℕ, List, ◌++◌, length, drop, ap, ◌∙◌, arith}
use Rattle.std.proofs.lemmas.List.{drop-append-le, length-drop}
use Rattle.std.proofs.Math.Seq.{drop-append-add}
use Rattle.byteorder.specs.Endian.{little_from, big_from}
use Rattle.byteorder.specs.Numbers.{little_from-append, big_from-append}
use Rattle.ebpf_base.specs.declared.endianness.Endianness.{Endianness}
use Rattle.ebpf_base.specs.declared.endianness.Endianness.TheVariants.{Little, Big}
use Rattle.ebpf_base.specs.Numbers.{number_at}
use Rattle.ebpf_btf.specs.Format.{word}

-- what is behind a word changes nothing
pub word_front : (o : Endianness) (xs ys : List ℕ) (p : ℕ) → p + 4 ≤ length xs → word o (xs ++ ys) p ≡ word o xs p
unfolding number_at
word_front Little xs ys p within =
    ap (little_from 0 4) (drop-append-le p xs ys (omega arith)) ∙ little_from-append 4 (drop p xs) ys (omega (arith, length-drop p xs))
word_front Big xs ys p within =
    ap (big_from 0 4) (drop-append-le p xs ys (omega arith)) ∙ big_from-append 4 (drop p xs) ys (omega (arith, length-drop p xs))

-- what is before a word moves it
pub word_behind : (o : Endianness) (xs ys : List ℕ) (p : ℕ) → word o (xs ++ ys) (length xs + p) ≡ word o ys p
unfolding number_at
word_behind Little xs ys p = ap (little_from 0 4) (drop-append-add xs ys p)
word_behind Big xs ys p = ap (big_from 0 4) (drop-append-add xs ys p)
