-- Outcomes of linking, one program after the other, and what refuses the programs.
use Rattle.std.proofs.Common.{◌≡◌, ℕ, zero, suc, ◌+◌, ◌<◌, ◌≤◌, List, [], ◌∷◌, ◌++◌, length, take, Option, Some, None, Result, Ok, Err, refl, sym, ap, subst, ◌∙◌, arith, slice_get, slice_index_or}
use Rattle.std.proofs.lemmas.List.{take_all, take_more}
use Rattle.std.proofs.lemmas.Slice.Zip.{all_zipped_more}
use Rattle.std.specs.List.{AllZip}
use Rattle.std.specs.Prelude.{MatchOption}
use Rattle.ebpf_base.specs.Faults.{fault_of, first_some, or_else}
use Rattle.ebpf_model.specs.declared.error.EbpfRelocationError.{EbpfRelocationError}
use Rattle.ebpf_outcomes.specs.CallOutcomes.{AreCallOutcomes, CallsRefuseByOutcomes}
use Rattle.ebpf_outcomes.specs.declared.linking.CallOutcome.{CallOutcome}
use Rattle.ebpf_reloc.proofs.OneResult.{all_with_maps, first_without_map}
use Rattle.ebpf_reloc.specs.Laws.{IsProgramLinkMapAnswer}
use Rattle.ebpf_reloc.specs.Linking.{IsFirstRefusal, IsLinkMapAt, IsProgramRefusal, ProgramValue, key_of}
use Rattle.ebpf_reloc.specs.SlotTargets.{LinkableValue}
use Rattle.ebpf_reloc.specs.declared.link_map.LinkMap.{LinkMap}

-- ---- one program after the other

module _ (parts : LinkableValue) (programs : List ProgramValue) where
  abbrev are : ProgramValue → CallOutcome → Type 0
  are program outcome = IsProgramLinkMapAnswer parts program outcome.link_map

  pub none_yet : (outcomes : List CallOutcome) → outcomes ≡ [] → AreCallOutcomes parts [] outcomes
  none_yet outcomes none = subst (λ os. AreCallOutcomes parts [] os) (sym none) tt

  module _ (i : ℕ) (outcomes : List CallOutcome) (so_far : AreCallOutcomes parts (take i programs) outcomes) where
    pub one_more : (program : ProgramValue) → i < length programs → program ≡ slice_index_or programs i program → (outcome : CallOutcome) → are program outcome
        → (more : List CallOutcome) → more ≡ outcomes ++ outcome ∷ [] → AreCallOutcomes parts (take (i + 1) programs) more
    one_more program below item outcome is more pushed =
        subst (λ os. AllZip are (take (i + 1) programs) os) (sym pushed)
        (subst (λ ps. AllZip are ps (outcomes ++ outcome ∷ [])) (ap (λ p. take i programs ++ p ∷ []) item ∙ sym (take_more programs i program below))
        (all_zipped_more are (take i programs) outcomes program outcome so_far is))

    pub all_done : length programs ≤ i → AreCallOutcomes parts programs outcomes
    all_done past = subst (λ (ps : List ProgramValue). AreCallOutcomes parts ps outcomes) (take_all i programs past) so_far

-- ---- what refuses the programs

module _ (parts : LinkableValue) where
  abbrev Has : ProgramValue → Type 0
  Has program = (m : LinkMap) × IsLinkMapAt parts (key_of program) m

  abbrev AllHave : List ProgramValue → Type 0
  AllHave programs = (k : ℕ) (program : ProgramValue) → slice_get programs k ≡ Some program → Has program

  record IsFirstAt (programs : List ProgramValue) (e : EbpfRelocationError) : Type 0 where
    index : ℕ
    program : ProgramValue
    at : slice_get programs index ≡ Some program
    refused : IsProgramRefusal parts program e
    before : (k : ℕ) (earlier : ProgramValue) → k < index → slice_get programs k ≡ Some earlier → Has earlier

  abbrev fault : CallOutcome → Option EbpfRelocationError
  fault outcome = fault_of outcome.link_map

  module _ (p : ProgramValue) (ps : List ProgramValue) where
    refused_here : (e : EbpfRelocationError) → IsProgramRefusal parts p e → IsFirstAt (p ∷ ps) e
    refused_here e is = record { index = 0; program = p; at = refl; refused = is; before = λ k earlier lt at. absurd (omega arith) }

    module _ (has : Has p) where
      all_have : AllHave ps → AllHave (p ∷ ps)
      all_have rest zero q at = let same : p ≡ q = cc in subst Has same has
      all_have rest (suc k) q at = rest k q at

      later : (e : EbpfRelocationError) → IsFirstAt ps e → IsFirstAt (p ∷ ps) e
      later e first = record { index = suc first.index; program = first.program; at = first.at; refused = first.refused; before = earlier }
        where
          earlier : (k : ℕ) (q : ProgramValue) → k < suc first.index → slice_get (p ∷ ps) k ≡ Some q → Has q
          earlier zero q lt at = let same : p ≡ q = cc in subst Has same has
          earlier (suc k) q lt at = first.before k q (omega arith) at

      passed : (o : Option EbpfRelocationError) → MatchOption o (AllHave ps) (IsFirstAt ps) → MatchOption o (AllHave (p ∷ ps)) (IsFirstAt (p ∷ ps))
      passed None rest = all_have rest
      passed (Some e) first = later e first

  found : (programs : List ProgramValue) (outcomes : List CallOutcome) → AreCallOutcomes parts programs outcomes → MatchOption (first_some fault outcomes) (AllHave programs) (IsFirstAt programs)
  found [] [] given = λ k program at. absurd (cc)
  found [] (o ∷ os) given = absurd given
  found (p ∷ ps) [] given = absurd given
  found (p ∷ ps) (o ∷ os) given = by o.link_map given.0 (found ps os given.1)
    where
      by : (r : Result LinkMap EbpfRelocationError) → IsProgramLinkMapAnswer parts p r → MatchOption (first_some fault os) (AllHave ps) (IsFirstAt ps)
          → MatchOption (or_else (fault_of r) (first_some fault os)) (AllHave (p ∷ ps)) (IsFirstAt (p ∷ ps))
      by (Ok m) is rest = passed p ps (m, is) (first_some fault os) rest
      by (Err e) is rest = refused_here p ps e is

  refuses : (programs : List ProgramValue) (o : Option EbpfRelocationError) → MatchOption o (AllHave programs) (IsFirstAt programs) → MatchOption o ((e : EbpfRelocationError) → IsFirstRefusal parts programs e → ⊥) (IsFirstRefusal parts programs)
  refuses programs None all = all_with_maps parts programs all
  refuses programs (Some e) first = first_without_map parts programs first.index first.program e first.at first.refused first.before

pub calls_refuse : CallsRefuseByOutcomes
calls_refuse parts programs outcomes given = refuses parts programs (first_some (fault parts) outcomes) (found parts programs outcomes given)
