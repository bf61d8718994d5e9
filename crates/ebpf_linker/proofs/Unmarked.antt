-- Flags are taken back.
use Rattle.std.proofs.Common.{◌≡◌, ℕ, suc, ◌+◌, ◌<◌, ◌≤◌, Bool, true, false, List, [], ◌∷◌, length, drop, replicate, Some, refl, sym, ap, ◌∙◌, subst, inl, inr, arith, get_or, length-set, get_or-set_same, get_or-set_other, drop-cons, add-one}
use Rattle.std.specs.Prelude.{slice_index_or, slice_set, All}
use Rattle.std.proofs.lemmas.Bool.{cases_eq}
use Rattle.std.proofs.lemmas.List.{drop_all}
use Rattle.ebpf_linker.specs.declared.reference.Fault.{Fault}
use Rattle.ebpf_linker.specs.declared.reference.Reference.{Reference}
use Rattle.ebpf_linker.specs.declared.search.Frame.{Frame}
use Rattle.ebpf_linker.specs.Functions.{Functions, Among}
use Rattle.ebpf_linker.specs.Search.{Search}
use Rattle.ebpf_linker.proofs.Readying.{all_within}
use Rattle.ebpf_linker.proofs.Paths.{among_get, get_among}
use Rattle.ebpf_linker.proofs.Searched.{State, Step, Ended, Unresolved, Passes, Opens, NoCopy}
use Rattle.ebpf_linker.specs.declared.reference.Reference.{Reference}

-- of n flags, those of the functions from place i on are left
pub record Unmarking (n : ℕ) (ks : List ℕ) (flags : List Bool) (i : ℕ) : Type 0 where
  pub size : length flags ≡ n
  pub left : (k : ℕ) → slice_index_or flags k false ≡ true → Among (drop i ks) k

among_rest : (ks : List ℕ) (m k : ℕ) → Among (m ∷ ks) k → (k ≡ m → ⊥) → Among ks k
among_rest ks m k (inl e) other = absurd (other (sym e))
among_rest ks m k (inr a) other = a

none_set : (flags : List Bool) → ((k : ℕ) → slice_index_or flags k false ≡ true → ⊥) → flags ≡ replicate (length flags) false
none_set [] h = refl
none_set (true ∷ flags) h = absurd (h 0 refl)
none_set (false ∷ flags) h = ap (λ (u : List Bool). false ∷ u) (none_set flags (λ k e. h (suc k) e))

module _ (n : ℕ) (ks : List ℕ) (flags : List Bool) (i : ℕ) where
  pub unmarked_next : (k : ℕ) → Unmarking n ks flags i → i < length ks → k ≡ get_or ks i 0 → k < n → Unmarking n ks (slice_set flags k false) (i + 1)
  unmarked_next k h lt e inside =
      let next : drop i ks ≡ k ∷ drop (i + 1) ks = rw (add-one, e) (drop-cons ks i 0 lt) in
      let inside' : k < length flags = omega (arith, h.size) in
      record {
        size = length-set flags k false ∙ h.size;
        left = λ m set.
            elim (cases_eq m k) [
              | inl same ↦ cc (get_or-set_same flags k false false inside')
              | inr other ↦
                  let was : slice_index_or flags m false ≡ true = sym (get_or-set_other flags k m false false other) ∙ set in
                  among_rest (drop (i + 1) ks) k m (subst (λ (u : List ℕ). Among u m) next (h.left m was)) other
            ];
      }

  pub unmarked_all : Unmarking n ks flags i → length ks ≤ i → flags ≡ replicate n false
  unmarked_all h past =
      let none : (k : ℕ) → slice_index_or flags k false ≡ true → ⊥ = λ k e. subst (λ (u : List ℕ). Among u k) (drop_all i ks past) (h.left k e) in
      none_set flags none ∙ ap (λ (m : ℕ). replicate m false) h.size

module _ {N : ℕ} {C : ℕ → List Reference} {p : ℕ} {o : List ℕ} {f : List Bool} {s : List Frame} (h : State N C p o f s) where
  -- what the search found are functions with flags, and no other has its flag set
  pub found_within : All (λ k. k < length f) o
  found_within = all_within (length f) o (λ k a. let (j, at) = among_get o k a in let lt = h.within j k at in omega (arith, lt, h.flags))

  pub set_among : (k : ℕ) → slice_index_or f k false ≡ true → Among o k
  set_among k e = let (j, pos, lt, at) = h.marked k e in get_among o j k at

-- a fault leaves the search as it was
pub stands_still : (F : Functions ℕ Fault) (C : ℕ → List Reference) (top : Frame) (s t : Search) (d : Fault) → Step F C top s t (Some d) → t ≡ s
stands_still F C top s t d (Ended past same is) = same
stands_still F C top s t d (Unresolved c e at to same is) = same
stands_still F C top s t d (Passes c k at to flag same is) = cc (is)
stands_still F C top s t d (Opens c k at to flag fits same is) = cc (is)
stands_still F C top s t d (NoCopy c k e at to flag full same is) = same
