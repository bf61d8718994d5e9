-- A box taken apart, as the machine has it: a struct of the pointer and what frees it. Assumes `Logic`.
use Rattle.std.proofs.Common.{◌≡◌, ◌∙◌, ap, refl, ℕ, List, [], ◌∷◌, ◌++◌, ◌+◌, map, length, Option, sym}
use Rattle.std_alloc.proofs.ResultValues.{and_tt}
use Rattle.std_alloc.specs.Box.Ownership.{box_owns}
use Rattle.std.specs.List.{flat_map}
use Rattle.core.proofs.alloc.Calls.{Al, handle_tells, Fits}
use Rattle.core.specs.declared.alloc.Allocator.{Ghosts}
use base.Logic.{never, fst∗}
use denote.Param.{layout}
use denote.Param.Laws.{Laws}
use denote.RattleType.{RattleType, Valss}
use denote.RawPtr.{RawPtr, block_ptr, null_ptr, ptr_val, in_a_block}
use denote.Steps.{nothing}
use denote.Struct.Owning.{shape}
use denote.Struct.Struct.{within}
use lib.Dec.{T}
use mathlib.Core.Bool.{◌&&◌, true}
use mir.Raw.{raw as bare}
use mir.Syntax.{impl, tnil, dnil}
use mir.Val.{Val, vptr, vstruct, vcons, vnil, of_list, has_ty, WT}
use seplogic.Ra.Ura.{Ura}
use types.Kit.{Item, Goal, Seq, Step, step, ‵, ◌$◌, move, drop, fsplit, fjoin, fpick, fpack, feq_i, feq_l}
use types.Logic.{Logic, sem}
use Rattle.capi_rows.specs.Listings.{rows_by, zero_terminated}
use Rattle.ebpf_btf.specs.TypeInfo.{TypeInfo}
use Rattle.capi_exports.specs.contracts.names.Loose as loose
use Rattle.ebpf_core.specs.Answers.{without_texts}
use Rattle.ebpf_core.specs.declared.error.RelocationError.{RelocationError}
use Rattle.ebpf_core.specs.declared.error.RelocationError.TheVariants as fault
use Rattle.ebpf_core_relo.specs.RecordOutcomes.{outcome_without_texts, result_without_texts}
use Rattle.ebpf_core_relo.specs.declared.outcomes.RecordOutcome.{RecordOutcome}
use Rattle.ebpf_core_relo.specs.declared.outcomes.RecordResult.{RecordResult}
use Rattle.ebpf_core_relo.specs.declared.outcomes.RecordResult.TheVariants.{Value, Absent, Refused}
use Rattle.capi_rows.specs.Numbers.{record_fault}
use Rattle.capi_rows.specs.Records.{listed_outcomes, outcome_row, section_name_in}
use Rattle.capi_rows.specs.declared.record_rows.ebpf_record_outcome.{ebpf_record_outcome}

-- the pointer to the block b from o on, and what frees it
abbrev pub pair : ℕ → ℕ → Val → Val
pair b o h = vstruct (vcons (vptr b o) (vcons h vnil))

-- the value's type, and that of what frees it, with its laws
pub record Types : Type 2 where
  pub value : RattleType
  pub freeing : RattleType
  pub laws : Laws freeing
  pub ghosts : Ghosts freeing.Denot

module _ (E : Types) where
  abbrev pub Apart : RattleType
  Apart = loose.the_row E.value E.freeing E.ghosts

  abbrev pub freeing_of : Al
  freeing_of = record { row = E.freeing; laws = E.laws; g = E.ghosts; d = impl [] tnil dnil; drops = impl [] tnil dnil }

  pub pair_fits : (b o : ℕ) (h : Val) → Fits freeing_of h → T (has_ty (layout E.freeing) h && true) × WT (pair b o h)
  pair_fits b o h fits = (and_tt (has_ty (layout E.freeing) h) fits.0, (tt, (fits.1, tt)))

  module _ {M : Type 1} {𝓤 : Ura M} {𝓛 : Logic 𝓤} {K : Type 0} {Γ : List (Item 𝓤)} {G : Goal 𝓤 𝓛.H} where
    -- what the pointer owns stands in a block, since nothing stands at null
    pub apart_out : K → (l : Apart.Denot) (vs : List Val)
        → ((b o : ℕ) (h : Val) → l.at ≡ block_ptr b o → vs ≡ pair b o h ∷ [] → Fits freeing_of h
        → Seq K 𝓛 (‵ (box_owns (E.ghosts.dealloc_token l.alloc) E.value (block_ptr b o) l.value) ∷ ‵ (E.freeing.own_val l.alloc (h ∷ [])) ∷ Γ) G)
        → Seq K 𝓛 (‵ (Apart.own_val l vs) ∷ Γ) G
    apart_out t l vs k =
        fsplit t $ fpick t (λ parts. fsplit t $ feq_l t (λ whole. fsplit t $ feq_l t (λ pointer. fsplit t $
        handle_tells freeing_of t l.alloc parts.1.0 (λ h freed fits. move t (1 ∷ []) $ drop t $ move t (1 ∷ []) $
        in_a_block t l.at (λ p. box_owns (E.ghosts.dealloc_token l.alloc) E.value p l.value) (fst∗ 𝓤 (never 𝓤) (sem 𝓛 (E.ghosts.dealloc_token l.alloc (bare (layout E.value)) null_ptr))) (λ b o block.
        k b o h block (whole ∙ (λ i. vstruct (of_list (pointer i ++ (freed i ++ []))) ∷ []) ∙ ap (λ p. vstruct (of_list (ptr_val p ∷ h ∷ [])) ∷ []) block) fits)))))

    pub apart_in : K → (b o : ℕ) (h : Val) (a : E.freeing.Denot) (x : E.value.Denot)
        → Step K 𝓛 (‵ (Apart.own_val (record { at = block_ptr b o; alloc = a; value = x }) (pair b o h ∷ [])) ∷ Γ) G
        (‵ (box_owns (E.ghosts.dealloc_token a) E.value (block_ptr b o) x) ∷ ‵ (E.freeing.own_val a (h ∷ [])) ∷ Γ) G
    apart_in t b o h a x = step (λ s.
        nothing t $ move t (2 ∷ 0 ∷ []) $ fjoin t $ feq_i t (List Val) (vptr b o ∷ []) (vptr b o ∷ []) refl $ fjoin t $
        feq_i t (List Val) (pair b o h ∷ []) (pair b o h ∷ []) refl $ fjoin t $
        fpack t (Valss (RawPtr ∷ E.freeing ∷ [])) (within (shape (loose.the_type E.value E.freeing E.ghosts)) (block_ptr b o, (a, tt)) (pair b o h ∷ [])) (vptr b o ∷ [], (h ∷ [], tt)) $ fjoin t $ s)

-- ---- rows of records tell nothing of the texts in faults that are for people to read

number_alike : (e : RelocationError) → (record_fault (without_texts e)).0 ≡ (record_fault e).0
number_alike (fault.BtfError e) = refl
number_alike fault.SectionNotFound = refl
number_alike fault.FunctionNotFound = refl
number_alike (fault.InvalidAccessString _) = refl
number_alike (fault.InvalidInstructionIndex _ _ _) = refl
number_alike (fault.ConflictingCandidates _ _) = refl
number_alike (fault.MaximumNestingLevelReached _) = refl
number_alike (fault.InvalidAccessIndex _ _ _ _ _) = refl
number_alike (fault.InvalidRelocationKindForType _ _ _ _) = refl
number_alike (fault.InvalidInstruction _ _ _) = refl
number_alike (fault.MissingTargetDefinition _ _ _) = refl
number_alike fault.OutOfMemory = refl

-- a row with another result
abbrev with_result : List ℕ → RecordOutcome → ℕ → RecordResult → ebpf_record_outcome
with_result name r at result = outcome_row name (record r { result = result }) at

result_alike : (name : List ℕ) (r : RecordOutcome) (at : ℕ) (result : RecordResult) → with_result name r at (result_without_texts result) ≡ with_result name r at result
result_alike name r at (Value outcome) = refl
result_alike name r at (Absent absence) = refl
result_alike name r at (Refused e) = ap (λ n. record (with_result name r at (Refused e)) { fault = n }) (number_alike e)

module _ (types : Option TypeInfo) where
  abbrev rows_of : RecordOutcome → ℕ → List ebpf_record_outcome
  rows_of r at = outcome_row (section_name_in types r.section_name) r at ∷ []

  abbrev text_of : RecordOutcome → List ℕ
  text_of r = zero_terminated (section_name_in types r.section_name)

  rows_alike : (at : ℕ) (rs : List RecordOutcome) → rows_by rows_of text_of at (map outcome_without_texts rs) ≡ rows_by rows_of text_of at rs
  rows_alike at [] = refl
  rows_alike at (r ∷ rs) =
      let name = section_name_in types r.section_name in
      let behind = at + length (text_of r) in
      ap (λ row. row ∷ rows_by rows_of text_of behind (map outcome_without_texts rs)) (result_alike name r at r.result)
      ∙ ap (λ rows. outcome_row name r at ∷ rows) (rows_alike behind rs)

  text_alike : (rs : List RecordOutcome) → flat_map text_of (map outcome_without_texts rs) ≡ flat_map text_of rs
  text_alike [] = refl
  text_alike (r ∷ rs) = ap (λ rest. text_of r ++ rest) (text_alike rs)

  pub listed_alike : (rs stated : List RecordOutcome) → map outcome_without_texts rs ≡ stated → listed_outcomes types rs ≡ listed_outcomes types stated
  listed_alike rs stated is =
      sym (λ i. (rows_alike 0 rs i, text_alike rs i)) ∙ ap (listed_outcomes types) is
