-- Types one after the other, by their offsets.
use Rattle.std.proofs.Common.{◌≡◌, ◌+◌, ◌*◌, ◌^◌, ◌<◌, ◌≤◌, ℕ, zero, suc, List, [], ◌∷◌, ◌++◌, length, take, drop, get_or, Some, refl, sym, ap, ◌∙◌, arith, subst}
use Rattle.std.specs.Prelude.{slice_get, unwrap_or}
use Rattle.std.proofs.lemmas.List.{drop-take, length-take, take-append-drop}
use Rattle.ebpf_base.specs.declared.endianness.Endianness.{Endianness}
use Rattle.ebpf_btf.specs.declared.kind.BtfKind.TheVariants as kinds
use Rattle.ebpf_btf.specs.Format.{AreTypesAt, IsTypeAt, end_of, info_at, info_kind, spelled, word}
use Rattle.ebpf_btf.specs.Offsets.{kind_here, type_here, end_here, types_here, AreOffsets, HoldsTypes}
use Rattle.ebpf_btf.proofs.Heads.{kind_again}
use Rattle.ebpf_btf.proofs.InOrder.{drop_some}
use Rattle.ebpf_btf.proofs.SameWords.{type_same, type_front}
use Rattle.ebpf_btf.proofs.WordsBehind.{word_front}

pub long_here : (o : Endianness) (bytes : List ℕ) (p : ℕ) → p + 12 ≤ end_here o bytes p
unfolding end_here
long_here o bytes p = omega arith

-- ---- what follows of offsets

few_offsets : (o : Endianness) (bytes : List ℕ) (offset end : ℕ) (ps : List ℕ) → AreOffsets o bytes offset end ps → offset + 12 * length ps ≤ end
few_offsets o bytes offset end [] are = omega (arith, are)
few_offsets o bytes offset end (p ∷ ps) are =
    let rest = few_offsets o bytes (end_here o bytes p) end ps are.2 in
    let here = long_here o bytes p in
    omega (arith, are.0)

inside_offsets : (o : Endianness) (bytes : List ℕ) (offset end : ℕ) (ps : List ℕ) → AreOffsets o bytes offset end ps
    → (k d : ℕ) → k < length ps → end_here o bytes (get_or ps k d) ≤ end
inside_offsets o bytes offset end [] are k d below = absurd (omega arith)
inside_offsets o bytes offset end (p ∷ ps) are zero d below =
    let rest = few_offsets o bytes (end_here o bytes p) end ps are.2 in
    omega arith
inside_offsets o bytes offset end (p ∷ ps) are (suc k) d below = inside_offsets o bytes (end_here o bytes p) end ps are.2 k d (omega arith)

is_type : (o : Endianness) (bytes : List ℕ) (p : ℕ) → info_kind (info_at o bytes p) ≡ Some (kind_here o bytes p)
    → IsTypeAt o bytes p (end_here o bytes p) (type_here o bytes p)
unfolding type_here end_here
is_type o bytes p known =
    let kind = kind_again o bytes p in
    record {
      kind = known ∙ ap Some (sym kind);
      words = ap (spelled o bytes p) (sym kind);
      ends = ap (end_of o bytes p) (sym kind);
    }

types_at_offsets : (o : Endianness) (bytes : List ℕ) (offset end : ℕ) (ps : List ℕ) → end ≡ length bytes → AreOffsets o bytes offset end ps
    → AreTypesAt o bytes offset (types_here o bytes ps)
unfolding types_here
types_at_offsets o bytes offset end [] whole are = are ∙ whole
types_at_offsets o bytes offset end (p ∷ ps) whole are =
    let rest = few_offsets o bytes (end_here o bytes p) end ps are.2 in
    let first : IsTypeAt o bytes offset (end_here o bytes p) (type_here o bytes p) =
    subst (λ (q : ℕ). IsTypeAt o bytes q (end_here o bytes p) (type_here o bytes p)) are.0 (is_type o bytes p are.1) in
    (end_here o bytes p, first, omega arith, types_at_offsets o bytes (end_here o bytes p) end ps whole are.2)

-- ---- one offset more, and fewer

pub offsets_push : (o : Endianness) (bytes : List ℕ) (offset end : ℕ) (ps : List ℕ) → AreOffsets o bytes offset end ps
    → info_kind (info_at o bytes end) ≡ Some (kind_here o bytes end) → AreOffsets o bytes offset (end_here o bytes end) (ps ++ end ∷ [])
offsets_push o bytes offset end [] are known = (sym are, known, refl)
offsets_push o bytes offset end (p ∷ ps) are known = (are.0, are.1, offsets_push o bytes (end_here o bytes p) end ps are.2 known)

offsets_before : (o : Endianness) (bytes : List ℕ) (offset end n : ℕ) (xs ys : List ℕ) → AreOffsets o bytes offset end (xs ++ n ∷ ys) → AreOffsets o bytes offset n xs
offsets_before o bytes offset end n [] ys are = sym are.0
offsets_before o bytes offset end n (x ∷ xs) ys are = (are.0, are.1, offsets_before o bytes (end_here o bytes x) end n xs ys are.2)

-- ---- with more bytes, and with fewer

known_same : (o : Endianness) (xs ys : List ℕ) (p q : ℕ) → word o ys (q + 4) ≡ word o xs (p + 4) → info_kind (info_at o xs p) ≡ Some (kind_here o xs p)
    → info_kind (info_at o ys q) ≡ Some (kind_here o ys q)
unfolding kind_here
known_same o xs ys p q same known =
    ap info_kind same ∙ known ∙ ap (λ n. Some (unwrap_or (info_kind n) kinds.Unknown)) (sym same)

pub offsets_front : (o : Endianness) (xs ys : List ℕ) (offset end : ℕ) (ps : List ℕ) → end ≤ length xs → AreOffsets o xs offset end ps
    → AreOffsets o (xs ++ ys) offset end ps
offsets_front o xs ys offset end [] within are = are
offsets_front o xs ys offset end (p ∷ ps) within are =
    let rest = few_offsets o xs (end_here o xs p) end ps are.2 in
    let here = long_here o xs p in
    let same = type_front o xs ys p (omega arith) in
    let after = offsets_front o xs ys (end_here o xs p) end ps within are.2 in (
      are.0,
      known_same o xs (xs ++ ys) p p (word_front o xs ys (p + 4) (omega arith)) are.1,
      subst (λ (n : ℕ). AreOffsets o (xs ++ ys) n end ps) (sym same.1) after,
    )

offsets_cut : (o : Endianness) (xs ys : List ℕ) (offset end : ℕ) (ps : List ℕ) → end ≤ length xs → AreOffsets o (xs ++ ys) offset end ps
    → AreOffsets o xs offset end ps × (types_here o xs ps ≡ types_here o (xs ++ ys) ps)
unfolding types_here
offsets_cut o xs ys offset end [] within are = (are, refl)
offsets_cut o xs ys offset end (p ∷ ps) within are =
    let rest = few_offsets o (xs ++ ys) (end_here o (xs ++ ys) p) end ps are.2 in
    let here = long_here o (xs ++ ys) p in
    let same = type_same o (xs ++ ys) p xs p (λ k inside. sym (word_front o xs ys (p + k) (omega arith))) in
    let ends : end_here o xs p ≡ end_here o (xs ++ ys) p = omega (arith, same.1) in
    let after = offsets_cut o xs ys (end_here o (xs ++ ys) p) end ps within are.2 in (
      (
        are.0,
        known_same o (xs ++ ys) xs p p (sym (word_front o xs ys (p + 4) (omega arith))) are.1,
        subst (λ (n : ℕ). AreOffsets o xs n end ps) (sym ends) after.0,
      ),
      (λ i. same.0 i ∷ after.1 i),
    )

-- ---- the whole

-- what is kept of bytes with such offsets
pub holds_of : (o : Endianness) (bytes : List ℕ) (start : ℕ) (offsets : List ℕ) → start ≤ length bytes → length (drop start bytes) < 2 ^ 32
    → AreOffsets o (drop start bytes) 0 (length (drop start bytes)) offsets → HoldsTypes o bytes start offsets
holds_of o bytes start offsets within small tiled =
    let part = drop start bytes in
    record {
      within = within;
      small = small;
      few = omega (arith, few_offsets o part 0 (length part) offsets tiled);
      inside = inside_offsets o part 0 (length part) offsets tiled;
      tiled = tiled;
      whole = types_at_offsets o part 0 (length part) offsets refl tiled;
    }

-- the first offsets, and the bytes up to the offset behind them
front_of : (o : Endianness) (part offsets : List ℕ) (k n : ℕ) → AreOffsets o part 0 (length part) offsets → slice_get offsets k ≡ Some n
    → (n ≤ length part) × AreOffsets o (take n part) 0 n (take k offsets) × (types_here o (take n part) (take k offsets) ≡ types_here o part (take k offsets))
front_of o part offsets k n tiled at =
    let split : offsets ≡ take k offsets ++ n ∷ drop (k + 1) offsets = sym (take-append-drop k offsets) ∙ ap (λ xs. take k offsets ++ xs) (drop_some offsets n k at) in
    let all = subst (λ (ps : List ℕ). AreOffsets o part 0 (length part) ps) split tiled in
    let before = offsets_before o part 0 (length part) n (take k offsets) (drop (k + 1) offsets) all in
    let below : n ≤ length part = below_end (take k offsets) (drop (k + 1) offsets) all in
    let size : length (take n part) ≡ n = omega (arith, length-take n part) in
    let whole : part ≡ take n part ++ drop n part = sym (take-append-drop n part) in
    let cut = offsets_cut o (take n part) (drop n part) 0 n (take k offsets) (omega arith) (subst (λ (xs : List ℕ). AreOffsets o xs 0 n (take k offsets)) whole before) in
    (below, cut.0, cut.1 ∙ ap (λ xs. types_here o xs (take k offsets)) (sym whole))
  where
    below_from : (offset : ℕ) (xs ys : List ℕ) → AreOffsets o part offset (length part) (xs ++ n ∷ ys) → n ≤ length part
    below_from offset [] ys are =
        let rest = few_offsets o part (end_here o part n) (length part) ys are.2 in
        let here = long_here o part n in
        omega arith
    below_from offset (x ∷ xs) ys are = below_from (end_here o part x) xs ys are.2

    below_end : (xs ys : List ℕ) → AreOffsets o part 0 (length part) (xs ++ n ∷ ys) → n ≤ length part
    below_end xs ys are = below_from 0 xs ys are

pub holds_front : (o : Endianness) (bytes : List ℕ) (start : ℕ) (offsets : List ℕ) (k n : ℕ) → HoldsTypes o bytes start offsets → slice_get offsets k ≡ Some n
    → HoldsTypes o (take (start + n) bytes) start (take k offsets)
holds_front o bytes start offsets k n kept at =
    let part = drop start bytes in
    let front = front_of o part offsets k n kept.tiled at in
    let shorter : drop start (take (start + n) bytes) ≡ take n part = drop-take start n bytes in
    let size : length (take n part) ≡ n = omega (arith, length-take n part, front.0) in
    let end : n ≡ length (drop start (take (start + n) bytes)) = sym (ap length shorter ∙ size) in
    let tiled = subst (λ (m : ℕ). AreOffsets o (drop start (take (start + n) bytes)) 0 m (take k offsets)) end
    (subst (λ (xs : List ℕ). AreOffsets o xs 0 n (take k offsets)) (sym shorter) front.1) in
    holds_of o (take (start + n) bytes) start (take k offsets)
    (omega (arith, length-take (start + n) bytes, kept.within)) (omega (arith, sym end, front.0, kept.small)) tiled

pub types_first : (o : Endianness) (bytes : List ℕ) (start : ℕ) (offsets : List ℕ) (k n : ℕ) → HoldsTypes o bytes start offsets → slice_get offsets k ≡ Some n
    → types_here o (drop start (take (start + n) bytes)) (take k offsets) ≡ types_here o (drop start bytes) (take k offsets)
types_first o bytes start offsets k n kept at =
    ap (λ xs. types_here o xs (take k offsets)) (drop-take start n bytes) ∙ (front_of o (drop start bytes) offsets k n kept.tiled at).2

-- the bytes up to an offset have that length
pub cut_length : (o : Endianness) (bytes : List ℕ) (start : ℕ) (offsets : List ℕ) (k n : ℕ) → HoldsTypes o bytes start offsets → slice_get offsets k ≡ Some n
    → length (drop start (take (start + n) bytes)) ≡ n
cut_length o bytes start offsets k n kept at =
    let front = front_of o (drop start bytes) offsets k n kept.tiled at in
    omega (arith, ap length (drop-take start n bytes), length-take n (drop start bytes), front.0)
