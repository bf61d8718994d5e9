-- Types by their offsets.
use Rattle.std.proofs.Common.{◌≡◌, ◌-◌, ◌<◌, ◌≤◌, ℕ, zero, suc, List, [], ◌∷◌, Some, None, length, get_or, subst, refl, arith}
use Rattle.std.specs.Prelude.{slice_get}
use Rattle.std.proofs.lemmas.Option.{slice_get-get_or, slice_get_within, get_or_from_slice_get}
use Rattle.ebpf_base.specs.declared.endianness.Endianness.{Endianness}
use Rattle.ebpf_btf.specs.declared.types.BtfType.{BtfType}
use Rattle.ebpf_btf.specs.Offsets.{types_here, end_here, AreInside, HoldsTypes}

-- one less is the offset among the others
pub past_first : {X : Type 0} (x : X) (xs : List X) (id : ℕ) → 0 < id → slice_get (x ∷ xs) id ≡ slice_get xs (id - 1)
past_first x xs zero more = absurd (omega arith)
past_first x xs (suc id) more = rw (less id) refl
  where
    less : (n : ℕ) → suc n - 1 ≡ n
    less n = omega arith

pub inside_at : (o : Endianness) (bytes offsets : List ℕ) (k offset : ℕ) → AreInside o bytes offsets → slice_get offsets k ≡ Some offset
    → end_here o bytes offset ≤ length bytes
inside_at o bytes offsets k offset inside is =
    let here : get_or offsets k offset ≡ offset = get_or_from_slice_get offsets k offset offset is in
    let P : ℕ → Type 0 = λ p. end_here o bytes p ≤ length bytes in
    subst P here (inside k offset (slice_get_within offsets k offset is))

-- ---- none

pub none_here : (o : Endianness) (bytes offsets : List ℕ) → offsets ≡ [] → types_here o bytes offsets ≡ []
unfolding types_here
none_here o bytes offsets none = rw none refl

pub holds_none : (o : Endianness) → HoldsTypes o [] 0 []
unfolding types_here
holds_none o = record {
  within = omega arith;
  small = omega arith;
  few = omega arith;
  inside = λ k d below. absurd (omega arith);
  tiled = refl;
  whole = refl;
}

-- there is one at each offset of a list
pub never_none : (types : List BtfType) (id : ℕ) (t : BtfType) → id < length types → slice_get types id ≡ None → slice_get types id ≡ Some t
never_none types id t below none =
    let some = slice_get-get_or types id t below in
    cc

-- an index that has none is past the end
pub past_end : (xs : List ℕ) (k : ℕ) → slice_get xs k ≡ None → length xs ≤ k
past_end [] k is = omega arith
past_end (x ∷ xs) zero is = cc
past_end (x ∷ xs) (suc k) is = let rest = past_end xs k is in omega arith
