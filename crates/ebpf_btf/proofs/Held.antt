-- Types by their offsets, with what stands beside their bytes.
use Rattle.std.proofs.Common.{◌≡◌, ◌+◌, ◌-◌, ◌<◌, ◌≤◌, ℕ, zero, suc, false, nat_lt, take, drop, List, [], ◌∷◌, ◌++◌, Some, None, length, get_or, refl, ap, ◌∙◌, arith}
use Rattle.std.specs.Prelude.{slice_get, sum_by}
use Rattle.std.specs.List.{filter, list_any}
use Rattle.std.specs.Option.{option_map}
use Rattle.std.proofs.lemmas.Option.{slice_get-map}
use Rattle.std.proofs.lemmas.List.{drop-append-le, drop-take, length-map, length-take, map-append, take-map, take_all}
use Rattle.std.proofs.lemmas.List.Sums.{sum_by-cons}
use Rattle.std.proofs.lemmas.Bool.{or_parts}
use Rattle.ebpf_base.specs.declared.endianness.Endianness.{Endianness}
use Rattle.ebpf_btf.specs.declared.fallback.OffsetFallback.{OffsetFallback}
use Rattle.ebpf_btf.specs.declared.types.BtfType.{BtfType}
use Rattle.ebpf_btf.specs.declared.types.BtfType.TheVariants.{Unknown}
use Rattle.ebpf_btf.specs.Format.{IsTypeAt}
use Rattle.ebpf_btf.specs.Offsets.{AreBeside, AreInside, HoldsTypes, beside, fallback_at, held_type, held_types, type_here, types_here, with_fallback, without_fallback}
use Rattle.ebpf_btf.specs.Types.{kind_of, name_off}
use Rattle.ebpf_btf.specs.Words.{fallback_of, has_fallback, type_length, types_length}
use Rattle.ebpf_btf.proofs.Added.{here_is, types_front}
use Rattle.ebpf_btf.proofs.Beside.{fallback_before, fallback_cut, fallback_last, kind_with, length_with, name_with, plain_with, with_again}
use Rattle.ebpf_btf.proofs.Heads.{plain_here}
use Rattle.ebpf_btf.proofs.Listed.{past_end, past_first}
use Rattle.ebpf_btf.proofs.SameWords.{type_behind}
use Rattle.ebpf_btf.proofs.Tiles.{holds_front, long_here, types_first}

-- nothing stands beside types that were read
pub held_alone : (o : Endianness) (bytes offsets : List ℕ) → held_types o bytes [] offsets ≡ types_here o bytes offsets
unfolding held_types held_type types_here fallback_at with_fallback
held_alone o bytes [] = refl
held_alone o bytes (p ∷ ps) = ap (λ ts. type_here o bytes p ∷ ts) (held_alone o bytes ps)

pub held_length : (o : Endianness) (bytes : List ℕ) (fs : List OffsetFallback) (offsets : List ℕ) → length (held_types o bytes fs offsets) ≡ length offsets
unfolding held_types
held_length o bytes fs offsets = length-map offsets (held_type o bytes fs)

pub held_some : (o : Endianness) (bytes : List ℕ) (fs : List OffsetFallback) (offsets : List ℕ) (t : BtfType) (id offset : ℕ) → 0 < id → slice_get offsets (id - 1) ≡ Some offset
    → slice_get (t ∷ held_types o bytes fs offsets) id ≡ Some (with_fallback (fallback_at fs offset) (type_here o bytes offset))
unfolding held_types held_type
held_some o bytes fs offsets t id offset more is =
    past_first t (held_types o bytes fs offsets) id more ∙ slice_get-map (held_type o bytes fs) offsets (id - 1) ∙ ap (option_map (held_type o bytes fs)) is

pub held_none : (o : Endianness) (bytes : List ℕ) (fs : List OffsetFallback) (offsets : List ℕ) (t : BtfType) (id : ℕ) → 0 < id → slice_get offsets (id - 1) ≡ None
    → slice_get (t ∷ held_types o bytes fs offsets) id ≡ None
unfolding held_types
held_none o bytes fs offsets t id more is =
    past_first t (held_types o bytes fs offsets) id more ∙ slice_get-map (held_type o bytes fs) offsets (id - 1) ∙ ap (option_map (held_type o bytes fs)) is

pub held_first : (o : Endianness) (bytes : List ℕ) (fs : List OffsetFallback) (offsets : List ℕ) (t : BtfType) (id : ℕ) → id ≡ 0
    → slice_get (t ∷ held_types o bytes fs offsets) id ≡ Some t
held_first o bytes fs offsets t id is = rw is refl

pub head_kind : (o : Endianness) (bytes : List ℕ) (fs : List OffsetFallback) (offsets : List ℕ) (t : BtfType) (id offset : ℕ) → 0 < id → slice_get offsets (id - 1) ≡ Some offset
    → option_map kind_of (slice_get (t ∷ held_types o bytes fs offsets) id) ≡ Some (kind_of (type_here o bytes offset))
head_kind o bytes fs offsets t id offset more is =
    ap (option_map kind_of) (held_some o bytes fs offsets t id offset more is) ∙ ap Some (kind_with (fallback_at fs offset) (type_here o bytes offset))

pub head_name : (o : Endianness) (bytes : List ℕ) (fs : List OffsetFallback) (offsets : List ℕ) (t : BtfType) (id offset : ℕ) → 0 < id → slice_get offsets (id - 1) ≡ Some offset
    → option_map name_off (slice_get (t ∷ held_types o bytes fs offsets) id) ≡ Some (name_off (type_here o bytes offset))
head_name o bytes fs offsets t id offset more is =
    ap (option_map name_off) (held_some o bytes fs offsets t id offset more is) ∙ ap Some (name_with (fallback_at fs offset) (type_here o bytes offset))

-- the same types, and the same beside each of them
held_same : (o : Endianness) (xs ys : List ℕ) (fs gs : List OffsetFallback) (ps : List ℕ)
    → ((k d : ℕ) → k < length ps → fallback_at gs (get_or ps k d) ≡ fallback_at fs (get_or ps k d)) → types_here o ys ps ≡ types_here o xs ps
    → held_types o ys gs ps ≡ held_types o xs fs ps
unfolding held_types held_type types_here
held_same o xs ys fs gs [] same are = refl
held_same o xs ys fs gs (p ∷ ps) same are =
    let first : type_here o ys p ≡ type_here o xs p = ap (λ ts. get_or ts 0 Unknown) are in
    let rest = held_same o xs ys fs gs ps (λ k d below. same (suc k) d (omega arith)) (ap (drop 1) are) in
    let beside = same 0 p (omega arith) in
    λ i. with_fallback (beside i) (first i) ∷ rest i

-- ---- one more

pub held_with_one : (o : Endianness) (bytes : List ℕ) (start : ℕ) (offsets : List ℕ) (fs : List OffsetFallback) (added : List ℕ) (t : BtfType) (offset : ℕ)
    → HoldsTypes o bytes start offsets → AreBeside (drop start bytes) fs → IsTypeAt o added 0 (length added) (without_fallback t) → offset ≡ length (drop start bytes)
    → held_types o (drop start (bytes ++ added)) (fs ++ beside offset (fallback_of t)) (offsets ++ offset ∷ []) ≡ held_types o (drop start bytes) fs offsets ++ t ∷ []
unfolding held_types held_type
held_with_one o bytes start offsets fs added t offset kept are is at =
    let part = drop start bytes in
    let gs = fs ++ beside offset (fallback_of t) in
    let more = drop-append-le start bytes added kept.within in
    let others : (k d : ℕ) → k < length offsets → fallback_at gs (get_or offsets k d) ≡ fallback_at fs (get_or offsets k d) =
    λ k d below. let end = kept.inside k d below in let long = long_here o part (get_or offsets k d) in fallback_before fs offset (get_or offsets k d) (fallback_of t) (omega arith) in
    let before = held_same o part (part ++ added) fs gs offsets others (types_front o part added offsets kept.inside) in
    let here : type_here o (part ++ added) offset ≡ without_fallback t =
    ap (type_here o (part ++ added)) at ∙ (type_behind o part added).0 ∙ (here_is o added (length added) (without_fallback t) is).0 in
    let stands : fallback_at gs offset ≡ fallback_of t = fallback_last part fs offset (fallback_of t) are (omega arith) in
    let last : held_type o (part ++ added) gs offset ≡ t = (λ i. with_fallback (stands i) (here i)) ∙ with_again t in
    ap (λ xs. held_types o xs gs (offsets ++ offset ∷ [])) more
    ∙ map-append (held_type o (part ++ added) gs) offsets (offset ∷ [])
    ∙ (λ i. before i ++ last i ∷ [])

-- ---- the first of them

pub held_front : (o : Endianness) (bytes : List ℕ) (start : ℕ) (offsets : List ℕ) (fs : List OffsetFallback) (k n : ℕ)
    → HoldsTypes o bytes start offsets → slice_get offsets k ≡ Some n
    → held_types o (drop start (take (start + n) bytes)) (filter (λ f. nat_lt f.offset n) fs) (take k offsets) ≡ held_types o (drop start bytes) fs (take k offsets)
held_front o bytes start offsets fs k n kept at =
    let part = drop start bytes in
    let shorter = drop start (take (start + n) bytes) in
    let inside : AreInside o shorter (take k offsets) = (holds_front o bytes start offsets k n kept at).inside in
    let long : length shorter ≤ n = omega (arith, ap length (drop-take start n bytes), length-take n part) in
    let others : (j d : ℕ) → j < length (take k offsets) → fallback_at (filter (λ f. nat_lt f.offset n) fs) (get_or (take k offsets) j d) ≡ fallback_at fs (get_or (take k offsets) j d) =
    λ j d below. let end = inside j d below in let size = long_here o shorter (get_or (take k offsets) j d) in fallback_cut fs n (get_or (take k offsets) j d) (omega arith) in
    held_same o part shorter fs (filter (λ f. nat_lt f.offset n) fs) (take k offsets) others (types_first o bytes start offsets k n kept at)

-- where there are no more all stay
pub first_all : (o : Endianness) (bytes : List ℕ) (fs : List OffsetFallback) (offsets : List ℕ) (t : BtfType) (n : ℕ) → 0 < n → slice_get offsets (n - 1) ≡ None
    → take n (t ∷ held_types o bytes fs offsets) ≡ t ∷ held_types o bytes fs offsets
first_all o bytes fs offsets t n more none =
    let many = past_end offsets (n - 1) none in
    take_all n (t ∷ held_types o bytes fs offsets) (omega (arith, held_length o bytes fs offsets))

pub first_some : (o : Endianness) (bytes : List ℕ) (fs : List OffsetFallback) (offsets : List ℕ) (t : BtfType) (n : ℕ) → 0 < n
    → take n (t ∷ held_types o bytes fs offsets) ≡ t ∷ held_types o bytes fs (take (n - 1) offsets)
unfolding held_types
first_some o bytes fs offsets t zero more = absurd (omega arith)
first_some o bytes fs offsets t (suc n) more =
    let less : suc n - 1 ≡ n = omega arith in
    rw less (ap (λ xs. t ∷ xs) (take-map (held_type o bytes fs) n offsets))

-- ---- how long they are

lengths : (o : Endianness) (bytes : List ℕ) (fs : List OffsetFallback) (offsets : List ℕ) → sum_by type_length (held_types o bytes fs offsets) ≡ sum_by type_length (types_here o bytes offsets)
unfolding held_types held_type types_here
lengths o bytes fs [] = refl
lengths o bytes fs (p ∷ ps) =
    let first = length_with (fallback_at fs p) (type_here o bytes p) in
    let rest = lengths o bytes fs ps in
    let one = sum_by-cons type_length (held_type o bytes fs p) (held_types o bytes fs ps) in
    let other = sum_by-cons type_length (type_here o bytes p) (types_here o bytes ps) in
    omega arith

pub held_lengths : (o : Endianness) (bytes : List ℕ) (fs : List OffsetFallback) (offsets : List ℕ)
    → types_length (Unknown ∷ held_types o bytes fs offsets) ≡ types_length (Unknown ∷ types_here o bytes offsets)
unfolding types_length
held_lengths o bytes fs offsets = lengths o bytes fs offsets

-- ---- types that the bytes have whole

none_plain : (o : Endianness) (bytes offsets : List ℕ) → list_any has_fallback (types_here o bytes offsets) ≡ false
unfolding types_here
none_plain o bytes [] = refl
none_plain o bytes (p ∷ ps) = rw (plain_here o bytes p) (none_plain o bytes ps)

pub none_has : (o : Endianness) (bytes : List ℕ) (fs : List OffsetFallback) (offsets : List ℕ) → length fs ≡ 0
    → list_any has_fallback (Unknown ∷ held_types o bytes fs offsets) ≡ false
unfolding fallback_of
none_has o bytes [] offsets none = ap (list_any has_fallback) (held_alone o bytes offsets) ∙ none_plain o bytes offsets
none_has o bytes (f ∷ fs) offsets none = absurd (omega arith)

each_plain : (o : Endianness) (bytes : List ℕ) (fs : List OffsetFallback) (ps : List ℕ) → list_any has_fallback (held_types o bytes fs ps) ≡ false
    → held_types o bytes fs ps ≡ types_here o bytes ps
unfolding held_types held_type types_here
each_plain o bytes fs [] none = refl
each_plain o bytes fs (p ∷ ps) none =
    let t = with_fallback (fallback_at fs p) (type_here o bytes p) in
    let both = or_parts (has_fallback t) (list_any has_fallback (held_types o bytes fs ps)) none in
    let first = plain_with (fallback_at fs p) (type_here o bytes p) both.0 in
    let rest = each_plain o bytes fs ps both.1 in
    λ i. first i ∷ rest i

pub held_plain : (o : Endianness) (bytes : List ℕ) (fs : List OffsetFallback) (offsets : List ℕ) → list_any has_fallback (Unknown ∷ held_types o bytes fs offsets) ≡ false
    → held_types o bytes fs offsets ≡ types_here o bytes offsets
unfolding fallback_of
held_plain o bytes fs offsets none = each_plain o bytes fs offsets none
