-- The front of some bytes.
use Rattle.std.proofs.Common.{◌≡◌, ◌+◌, ◌-◌, ◌≤◌, ℕ, List, take, drop, length, subst, sym, ap, ◌∙◌, arith}
use Rattle.std.specs.Prelude.{slice_range}
use Rattle.ebpf_base.specs.declared.endianness.Endianness.{Endianness}
use Rattle.ebpf_btf.specs.Offsets.{AreOffsets, HoldsTypes}
use Rattle.ebpf_btf.proofs.Tiles.{holds_of}
use Rattle.std.proofs.lemmas.List.{drop-take}

-- what is behind an offset of the bytes up to an end
pub part_is : (xs : List ℕ) (start end : ℕ) → start ≤ end → drop start (take end xs) ≡ slice_range xs start end
part_is xs start end below =
    let whole : start + (end - start) ≡ end = omega arith in
    ap (λ n. drop start (take n xs)) (sym whole) ∙ drop-take start (end - start) xs

-- what is kept of bytes is kept of longer ones that end with them
pub holds_behind : (o : Endianness) (part bytes : List ℕ) (start : ℕ) (offsets : List ℕ) → HoldsTypes o part 0 offsets → start ≤ length bytes → drop start bytes ≡ part
    → HoldsTypes o bytes start offsets
holds_behind o part bytes start offsets kept within is =
    let same : drop start bytes ≡ drop 0 part = is in
    holds_of o bytes start offsets within (rw same kept.small)
    (subst (λ (xs : List ℕ). AreOffsets o xs 0 (length xs) offsets) (sym same) kept.tiled)
