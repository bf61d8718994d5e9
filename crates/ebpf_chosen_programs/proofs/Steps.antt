-- Steps of loops over slices: one item, then the others.
use Rattle.std.proofs.Common.{◌≡◌, ℕ, zero, suc, ◌+◌, ◌<◌, ◌≤◌, Bool, true, false, List, [], ◌∷◌, map, drop, length, get_or, None, Option, Bor, refl, sym, ap, ◌∙◌, arith}
use Rattle.std.specs.Prelude.{fold, slice_index_or}
use Rattle.std.specs.FinMap.{FinMap, insert}
use Rattle.ebpf_base.proofs.Lists.{rest_more, rest_none}
use Rattle.ebpf_base.specs.Faults.{first_some, or_else}
use Rattle.ebpf_base.specs.Maps.{text_cmp, key_cmp, lent_bytes, put_all}
use Rattle.ebpf_linker.specs.declared.reference.Reference.{Reference}
use Rattle.ebpf_model.specs.Symbols.{FunctionKey}
use Rattle.ebpf_chosen_programs.specs.PrivateContracts.{Found, found_keys, is_found, member, with_found, with_names, with_target}

module _ (names : List (Bor (List ℕ))) where
  pub name_more : (set : FinMap text_cmp (Unit {0})) (i : ℕ) (name : Bor (List ℕ)) → i < length names → name ≡ slice_index_or names i name
      → with_names set (lent_bytes (drop i names)) ≡ with_names (insert set name.now tt) (lent_bytes (drop (i + 1) names))
  name_more set i name below here = ap (λ r. with_names set (lent_bytes r)) (rest_more names i name below here)

  pub name_none : (set : FinMap text_cmp (Unit {0})) (i : ℕ) → length names ≤ i → with_names set (lent_bytes (drop i names)) ≡ set
  name_none set i past = ap (λ r. with_names set (lent_bytes r)) (rest_none names i past)

  module _ {E : Type 0} (fault : List ℕ → Option E) where
    pub fault_more : (i : ℕ) (name : Bor (List ℕ)) → i < length names → name ≡ slice_index_or names i name
        → first_some fault (lent_bytes (drop i names)) ≡ or_else (fault name.now) (first_some fault (lent_bytes (drop (i + 1) names)))
    fault_more i name below here = ap (λ r. first_some fault (lent_bytes r)) (rest_more names i name below here)

    pub fault_none : (i : ℕ) → length names ≤ i → first_some fault (lent_bytes (drop i names)) ≡ None
    fault_none i past = ap (λ r. first_some fault (lent_bytes r)) (rest_none names i past)

module _ (references : List Reference) where
  pub target_more : (s : Found) (i : ℕ) (r : Reference) → i < length references → r ≡ slice_index_or references i r
      → fold with_target s (map (λ r. r.target) (drop i references)) ≡ fold with_target (with_target s r.target) (map (λ r. r.target) (drop (i + 1) references))
  target_more s i r below here = ap (λ l. fold with_target s (map (λ r. r.target) l)) (rest_more references i r below here)

  pub target_none : (s : Found) (i : ℕ) → length references ≤ i → fold with_target s (map (λ r. r.target) (drop i references)) ≡ s
  target_none s i past = ap (λ l. fold with_target s (map (λ r. r.target) l)) (rest_none references i past)

module _ (numbers : List ℕ) where
  pub number_more : (s : Found) (i n : ℕ) → i < length numbers → n ≡ slice_index_or numbers i n → fold with_found s (drop i numbers) ≡ fold with_found (with_found s n) (drop (i + 1) numbers)
  number_more s i n below here = ap (fold with_found s) (rest_more numbers i n below here)

  pub number_none : (s : Found) (i : ℕ) → length numbers ≤ i → fold with_found s (drop i numbers) ≡ s
  number_none s i past = ap (fold with_found s) (rest_none numbers i past)

-- ---- keys with their flags

none_found : (keys : List FunctionKey) → found_keys keys [] ≡ []
none_found [] = refl
none_found (k ∷ keys) = refl

key_here : (keys : List FunctionKey) (flags : List Bool) (i : ℕ) (d : FunctionKey) → i < length keys → is_found flags i ≡ true → found_keys (drop i keys) (drop i flags) ≡ get_or keys i d ∷ found_keys (drop (suc i) keys) (drop (suc i) flags)
key_here [] flags i d below h = absurd (omega (arith, below))
key_here (k ∷ keys) [] i d below h = cc
key_here (k ∷ keys) (b ∷ flags) zero d below h = rw h refl
key_here (k ∷ keys) (b ∷ flags) (suc i) d below h = key_here keys flags i d (omega (arith, below)) h

no_key_here : (keys : List FunctionKey) (flags : List Bool) (i : ℕ) → i < length keys → is_found flags i ≡ false → found_keys (drop i keys) (drop i flags) ≡ found_keys (drop (suc i) keys) (drop (suc i) flags)
no_key_here [] flags i below h = absurd (omega (arith, below))
no_key_here (k ∷ keys) [] i below h =
    let none : (j : ℕ) → found_keys (drop j (k ∷ keys)) (drop j []) ≡ [] = λ j. ap (found_keys (drop j (k ∷ keys))) (rest_none [] j (omega arith)) ∙ none_found (drop j (k ∷ keys)) in
    none i ∙ sym (none (suc i))
no_key_here (k ∷ keys) (b ∷ flags) zero below h = rw h refl
no_key_here (k ∷ keys) (b ∷ flags) (suc i) below h = no_key_here keys flags i (omega (arith, below)) h

module _ (keys : List FunctionKey) (flags : List Bool) (set : FinMap key_cmp (Unit {0})) where
  abbrev added : ℕ → FinMap key_cmp (Unit {0}) → FinMap key_cmp (Unit {0})
  added i s = put_all s (map member (found_keys (drop i keys) (drop i flags)))

  pub key_more : (i : ℕ) (key : FunctionKey) → i < length keys → key ≡ slice_index_or keys i key → is_found flags i ≡ true → added i set ≡ added (i + 1) (insert set key tt)
  key_more i key below here h =
      let next : suc i ≡ i + 1 = omega arith in
      ap (λ l. put_all set (map member l)) (key_here keys flags i key below h)
      ∙ ap (λ (k : FunctionKey). added (suc i) (insert set k tt)) (sym here)
      ∙ ap (λ (j : ℕ). added j (insert set key tt)) next

  pub key_passed : (i : ℕ) → i < length keys → is_found flags i ≡ false → added i set ≡ added (i + 1) set
  key_passed i below h =
      let next : suc i ≡ i + 1 = omega arith in
      ap (λ l. put_all set (map member l)) (no_key_here keys flags i below h) ∙ ap (λ (j : ℕ). added j set) next

  pub key_none : (i : ℕ) → length keys ≤ i → added i set ≡ set
  key_none i past = ap (λ (l : List FunctionKey). put_all set (map member (found_keys l (drop i flags)))) (rest_none keys i past)
