-- A type behind others.
use Rattle.std.proofs.Common.{◌≡◌, ◌+◌, ◌^◌, drop, ◌<◌, ℕ, suc, List, [], ◌∷◌, ◌++◌, length, Some, refl, sym, ap, ◌∙◌, arith, subst}
use Rattle.std.proofs.lemmas.List.{length-append}
use Rattle.ebpf_base.specs.declared.endianness.Endianness.{Endianness}
use Rattle.ebpf_btf.specs.declared.types.BtfType.{BtfType}
use Rattle.ebpf_btf.specs.Format.{IsTypeAt, end_of, info_at, info_kind, spelled, word}
use Rattle.std.proofs.lemmas.List.{drop-append-le}
use Rattle.std.specs.Prelude.{unwrap_or}
use Rattle.ebpf_btf.specs.declared.kind.BtfKind.TheVariants as kinds
use Rattle.ebpf_btf.specs.Offsets.{kind_here, type_here, end_here, types_here, AreInside, AreOffsets, HoldsTypes}
use Rattle.ebpf_btf.proofs.Tiles.{holds_of, offsets_front, offsets_push}
use Rattle.ebpf_btf.specs.Types.{kind_of}
use Rattle.ebpf_btf.proofs.SameWords.{type_front, type_behind}
use Rattle.ebpf_btf.proofs.WordsBehind.{word_behind}

-- the others stay
pub types_front : (o : Endianness) (xs ys offsets : List ℕ) → AreInside o xs offsets → types_here o (xs ++ ys) offsets ≡ types_here o xs offsets
unfolding types_here
types_front o xs ys [] inside = refl
types_front o xs ys (p ∷ ps) inside =
    let first = (type_front o xs ys p (inside 0 p (omega arith))).0 in
    let rest = types_front o xs ys ps (λ k d below. inside (suc k) d (omega arith)) in
    λ i. first i ∷ rest i

-- ---- the whole

pub here_is : (o : Endianness) (ys : List ℕ) (next : ℕ) (t : BtfType) → IsTypeAt o ys 0 next t → (type_here o ys 0 ≡ t) × (end_here o ys 0 ≡ next)
unfolding type_here end_here kind_here
here_is o ys next t is =
    let kind : kind_here o ys 0 ≡ kind_of t = ap (λ r. unwrap_or r kinds.Unknown) is.kind in
    (ap (spelled o ys 0) kind ∙ sym is.words, ap (end_of o ys 0) kind ∙ sym is.ends)

known_at : (o : Endianness) (part ys : List ℕ) (next : ℕ) (t : BtfType) → IsTypeAt o ys 0 next t
    → info_kind (info_at o (part ++ ys) (length part)) ≡ Some (kind_here o (part ++ ys) (length part))
unfolding kind_here
known_at o part ys next t is =
    let info : word o (part ++ ys) (length part + 4) ≡ word o ys (0 + 4) = word_behind o part ys 4 in
    let kind = ap info_kind info ∙ is.kind in
    kind ∙ ap (λ r. Some (unwrap_or r kinds.Unknown)) (sym kind)

pub holds_added : (o : Endianness) (bytes : List ℕ) (start : ℕ) (offsets added : List ℕ) (t : BtfType) (offset : ℕ) → HoldsTypes o bytes start offsets
    → IsTypeAt o added 0 (length added) t → offset ≡ length (drop start bytes) → offset + length added < 2 ^ 32
    → HoldsTypes o (bytes ++ added) start (offsets ++ offset ∷ [])
holds_added o bytes start offsets added t offset kept is at small =
    let part = drop start bytes in
    let here : length part ≡ offset = sym at in
    let more = drop-append-le start bytes added kept.within in
    let both = here_is o added (length added) t is in
    let all : length (part ++ added) ≡ length part + length added = length-append part added in
    let long : length (drop start (bytes ++ added)) ≡ offset + length added = ap length more ∙ all ∙ ap (λ n. n + length added) here in
    let ends : end_here o (part ++ added) (length part) ≡ length (part ++ added) = omega (arith, (type_behind o part added).1, both.1) in
    let front = offsets_front o part added 0 (length part) offsets (omega arith) kept.tiled in
    let pushed = offsets_push o (part ++ added) 0 (length part) offsets front (known_at o part added (length added) t is) in
    let tiled = subst (λ (n : ℕ). AreOffsets o (part ++ added) 0 n (offsets ++ length part ∷ [])) ends pushed in
    holds_of o (bytes ++ added) start (offsets ++ offset ∷ []) (omega (arith, length-append bytes added, kept.within)) (omega (arith, long))
    (subst (λ (p : ℕ). AreOffsets o (drop start (bytes ++ added)) 0 (length (drop start (bytes ++ added))) (offsets ++ p ∷ [])) here
    (subst (λ (xs : List ℕ). AreOffsets o xs 0 (length xs) (offsets ++ length part ∷ [])) (sym more) tiled))
