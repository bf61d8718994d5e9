-- The programs that are judged so far, position by position.
use Rattle.std.proofs.Common.{◌≡◌, ◌∙◌, ap, sym, refl, arith, ℕ, zero, suc, ◌+◌, ◌<◌, ◌≤◌, List, [], ◌∷◌, ◌++◌, length, Some, subst, ⊎_elim, length-append}
use Rattle.std.specs.Prelude.{slice_get, slice_index_or}
use Rattle.std.proofs.lemmas.Bool.{cases_lt}
use Rattle.std.proofs.lemmas.Option.{get_or_from_slice_get}
use Rattle.ebpf_base.proofs.Lists.{get_end}
use Rattle.ebpf_btf.specs.TypeInfo.{TypeInfo}
use Rattle.ebpf_core_relo.specs.declared.outcomes.RecordOutcome.{RecordOutcome}
use Rattle.ebpf_reloc.specs.Linking.{ProgramValue}
use Rattle.ebpf_reloc.specs.SlotTargets.{LinkableValue}
use Rattle.ebpf_verdict.specs.Verdicts.{AreVerdicts, IsProgramVerdict}
use Rattle.ebpf_verdict.specs.declared.programs.ProgramVerdict.{ProgramVerdict}

get_kept : {A : Type 0} (xs : List A) (y : A) (i : ℕ) → i < length xs → slice_get (xs ++ y ∷ []) i ≡ slice_get xs i
get_kept [] y i h = absurd (omega (arith, h))
get_kept (x ∷ xs) y zero h = refl
get_kept (x ∷ xs) y (suc i) h = get_kept xs y i (omega (arith, h))

length_more : {A : Type 0} (xs : List A) (y : A) → length (xs ++ y ∷ []) ≡ length xs + 1
length_more xs y = length-append xs (y ∷ [])

-- a place with an item is within the list
pub within : {A : Type 0} (xs : List A) (i : ℕ) (x : A) → slice_get xs i ≡ Some x → i < length xs
within [] i x at = cc
within (y ∷ xs) zero x at = omega arith
within (y ∷ xs) (suc i) x at = let h = within xs i x at in omega (arith, h)

module _ (kernel : TypeInfo) (maps : List ℕ) (records : List RecordOutcome) (parts : LinkableValue) (programs : List ProgramValue) where
  -- each of the first programs has its verdict, at its position
  pub record SoFar (n : ℕ) (all : List ProgramVerdict) : Type 0 where
    pub as_many : length all ≡ n
    pub each : (i : ℕ) (program : ProgramValue) → i < n → slice_get programs i ≡ Some program → (v : ProgramVerdict) × (slice_get all i ≡ Some v) × IsProgramVerdict kernel maps records parts program v

  pub none_yet : SoFar 0 []
  none_yet = record { as_many = refl; each = λ i program h at. absurd (omega (arith, h)) }

  module _ (n : ℕ) (all : List ProgramVerdict) (so_far : SoFar n all) where
    pub one_more : (program : ProgramValue) (v : ProgramVerdict) → program ≡ slice_index_or programs n program → IsProgramVerdict kernel maps records parts program v → SoFar (n + 1) (all ++ v ∷ [])
    one_more program v here is = record {
      as_many = length_more all v ∙ ap (λ k. k + 1) so_far.as_many;
      each = λ i p h at. ⊎_elim
          (λ (below : i < n).
          let earlier = so_far.each i p below at in
          (earlier.0, get_kept all v i (omega (arith, below, so_far.as_many)) ∙ earlier.1, earlier.2))
          (λ (high : n ≤ i).
          let last : i ≡ n = omega arith in
          let same : p ≡ program = sym (get_or_from_slice_get programs n p program (ap (slice_get programs) (sym last) ∙ at)) ∙ sym here in
          (v, ap (slice_get (all ++ v ∷ [])) (last ∙ sym so_far.as_many) ∙ get_end all v, subst (λ (q : ProgramValue). IsProgramVerdict kernel maps records parts q v) (sym same) is))
          (cases_lt i n);
    }

    pub all_judged : n ≡ length programs → AreVerdicts kernel maps records parts programs all
    all_judged end = record {
      as_many = so_far.as_many ∙ end;
      each = λ i program at. so_far.each i program (let h = within programs i program at in omega (arith, h, end)) at;
    }
