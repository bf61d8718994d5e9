-- A handle as the machine has it: a struct of one pointer. Assumes `Logic`.
use Rattle.std.proofs.Common.{◌≡◌, ℕ, List, [], ◌∷◌, ◌++◌, refl, subst, true, ap, ◌∙◌, sym}
use Rattle.std.specs.Prelude.{Option, Some, None, Ok, Result, Err, IfErr, OnOk, OnErr, MatchOption}
use Rattle.std.proofs.GlobalToken.{dealloc_token-Testable}
use Rattle.std.specs.contracts.impls.GlobalAllocator.TheImpl.{ghosts}
use Rattle.std_alloc.specs.Box.Ownership.{box_owns}
use Rattle.std.specs.FinMap.{FinMap, get, insert}
use Rattle.std.specs.Str.{IsUtf8}
use Rattle.std.specs.contracts.alloc.Global as heap
use Rattle.std.proofs.alloc.Global.TheLaws as heap_laws
use Rattle.core.specs.Ptr.{points_to}
use base.Fml.{Fml}
use base.Logic.{ent, via, fst∗, snd∗, never, guard, guard_i}
use contract.Monad.{fact_use}
use denote.Param.{layout}
use denote.RattleType.{RattleType, Valss}
use denote.RawPtr.{Ptr, RawPtr, block_ptr, null_ptr, ptr_val, in_a_block, Testable}
use denote.Steps.{nothing}
use denote.Struct.Owning.{shape}
use denote.Struct.Struct.{within}
use mir.Raw.{raw as bare}
use mir.Val.{Val, vstruct, vcons, vnil, of_list}
use seplogic.Ra.Ura.{Ura}
use types.Kit.{Item, Goal, Seq, Step, step, ‵, given, learn, use1, ◌$◌, drop, fsplit, fjoin, fpick, fpack, feq_i, feq_l}
use types.Logic.{Logic, sem}
use Rattle.capi_rows.proofs.Fills.{named_by_text, named_by_none}
use Rattle.capi_rows.specs.Refusals.{IsReported}
use Rattle.capi_rows.specs.declared.codes.TheConstants.{DONE, NO_MAP}
use Rattle.capi_rows.specs.declared.refusal.Refusal.{Refusal}
use Rattle.capi_rows.specs.declared.refusal.ebpf_refusal.{ebpf_refusal}
use Rattle.ebpf_base.specs.Maps.{text_cmp}
use Rattle.ebpf_btf.specs.TypeInfo.{TypeInfo}
use Rattle.capi_exports.proofs.Texts.{Types}
use Rattle.capi_exports.specs.Handles.{heap, handle_owns}
use Rattle.capi_exports.specs.Passes.{PreparationInputs, all_passes, HasPreparedHeld}
use Rattle.capi_exports.specs.PassOrder.{OfHandle, Sets, fault_of_setting}
use Rattle.capi_exports.specs.Settings.{SetsMaps}
use Rattle.capi_exports.specs.contracts.handle.ebpf_handle as handle
use Rattle.capi_exports.specs.contracts.held.Held.{the_row}
use Rattle.capi_exports.specs.contracts.held.Held as content
use Rattle.capi_exports.specs.declared.held.Held.{Held}
use Rattle.ebpf_ksyms.specs.Sources.{Text}
use Rattle.ebpf_model.specs.Memory.{NamesNoneForMemory, is_memory_at}
use Rattle.ebpf_model.specs.declared.error.EbpfRelocationError.{EbpfRelocationError}
use Rattle.ebpf_reloc.specs.Relocated.{out_of_memory}
use Rattle.ebpf_object.specs.Headline.{Headline}
use Rattle.ebpf_object.specs.Prepared.{IsParsed, Stages}
use Rattle.ebpf_object.specs.Stages.{Chosen}
use Rattle.ebpf_object.specs.UnchangedFields.{KeepsOthers}
use Rattle.ebpf_object.specs.declared.object.Object.{Object}
use Rattle.ebpf_parts.specs.declared.maps.either.Map.{Map}
use Rattle.ebpf_parts.specs.declared.parse_mode.ParseMode.{ParseMode}
use Rattle.capi_rows.specs.Descriptors.{have_names}
use Rattle.capi_rows.specs.FileTypes.{types_if}
use Rattle.capi_rows.specs.Handles.{IsRefused, WhyHeld, IsSet}

abbrev pub Handle : RattleType
Handle = handle.the_row

abbrev pub word : Ptr → Val
word p = vstruct (vcons (ptr_val p) vnil)

-- an object and its last pass in a block of its own
abbrev pub kept : Ptr → Held → Fml
kept p x = box_owns (ghosts.dealloc_token heap) the_row p x

-- what may be freed may be compared with null
kept_tested : {M : Type 1} {𝓤 : Ura M} (𝓛 : Logic 𝓤) (p : Ptr) (x : Held) → ent 𝓤 (sem 𝓛 (kept p x)) (guard 𝓤 (Testable p) (sem 𝓛 (kept p x)))
kept_tested {𝓤 = 𝓤} 𝓛 p x = fact_use 𝓤 (Testable p) (via 𝓤 _ (snd∗ 𝓤 (sem 𝓛 (points_to the_row p x)) (sem 𝓛 (ghosts.dealloc_token heap (bare (layout the_row)) p))) (dealloc_token-Testable 𝓛 heap (bare (layout the_row)) p)) (guard_i 𝓤 (Testable p) (sem 𝓛 (kept p x)))

module _ {M : Type 1} {𝓤 : Ura M} {𝓛 : Logic 𝓤} {K : Type 0} {Γ : List (Item 𝓤)} {G : Goal 𝓤 𝓛.H} where
  -- a handle is its pointer, and what is held behind that
  pub handle_in : K → (p : Ptr) (o : Option Held) → Step K 𝓛 (‵ (Handle.own_val (record { at = p; held = o }) (word p ∷ [])) ∷ Γ) G (‵ (handle_owns p o) ∷ Γ) G
  handle_in t p o = step (λ s.
      nothing t $ feq_i t (List Val) (ptr_val p ∷ []) (ptr_val p ∷ []) refl $ fjoin t $
      feq_i t (List Val) (word p ∷ []) (word p ∷ []) refl $ fjoin t $
      fpack t (Valss (RawPtr ∷ [])) (within (shape handle.the_type) (p, tt) (word p ∷ [])) (ptr_val p ∷ [], tt) $ fjoin t $ s)

  pub handle_out : K → (h : Handle.Denot) (vs : List Val) → (vs ≡ word h.at ∷ [] → Seq K 𝓛 (‵ (handle_owns h.at h.held) ∷ Γ) G) → Seq K 𝓛 (‵ (Handle.own_val h vs) ∷ Γ) G
  handle_out t h vs k =
      fsplit t $ fpick t (λ parts. fsplit t $ feq_l t (λ whole. fsplit t $ feq_l t (λ pointer. drop t $
      k (subst (λ (us : List Val). vs ≡ vstruct (of_list (us ++ [])) ∷ []) pointer whole))))

  -- it holds nothing, and its pointer is null; or it holds an object, and its pointer is not
  pub held_out : K → (p : Ptr) (o : Option Held)
      → (p ≡ null_ptr → o ≡ None → Seq K 𝓛 Γ G)
      → ((b n : ℕ) (x : Held) → p ≡ block_ptr b n → o ≡ Some x → Testable (block_ptr b n) → Seq K 𝓛 (‵ (kept (block_ptr b n) x) ∷ Γ) G)
      → Seq K 𝓛 (‵ (handle_owns p o) ∷ Γ) G
  held_out t p None nothing_there there = feq_l t (λ at_null. nothing_there at_null refl)
  held_out t p (Some x) nothing_there there =
      in_a_block t p (λ q. kept q x) (fst∗ 𝓤 (never 𝓤) (sem 𝓛 (ghosts.dealloc_token heap (bare (layout the_row)) null_ptr))) (λ b n block.
      use1 𝓛 (given (Testable (block_ptr b n)) (‵ (kept (block_ptr b n) x))) (kept_tested 𝓛 (block_ptr b n) x) $ learn t (λ may.
      there b n x block refl may))

-- ---- the object of a handle, prepared by steps that are all passes

pub held : (inputs : PreparationInputs) (kernel : Option TypeInfo) (steps : Chosen) (old new : Object)
    → types_if inputs.types ≡ Ok kernel → have_names inputs.text inputs.rows ≡ true → steps ≡ all_passes inputs kernel → Stages steps (Text inputs.symbols) old new
    → ((mode : ParseMode) (file : List ℕ) → IsParsed mode file old → Headline steps (Text inputs.symbols) mode file new)
    → KeepsOthers old new → HasPreparedHeld inputs old new
held inputs kernel steps old new spelled named all stages headline others = record {
  kernel = kernel;
  spelled = spelled;
  named = named;
  stages = subst (λ s. Stages s (Text inputs.symbols) old new) all stages;
  headline = λ mode file parsed. subst (λ s. Headline s (Text inputs.symbols) mode file new) all (headline mode file parsed);
  others_stay = others;
}

-- ---- the types of an object in a block of its own

abbrev pub object_types : Types
object_types = record { value = content.the_row; freeing = heap.the_row; laws = heap_laws.the_row_laws; ghosts = ghosts }

-- ---- what a call that changes an object leaves where it refuses

pub refused_with : {U : Type 0} (Why : Held → Refusal → Type 0) (answer : Result U Refusal) (held put : Option Held) (old new : Held) (n : ℕ) (before after : List ℕ) (report : ebpf_refusal)
    → Some old ≡ held → put ≡ Some new → OnErr answer (new ≡ old) → IfErr answer (Why old) → OnOk answer (n ≡ DONE) → IfErr answer (λ r. IsReported r n before after report)
    → ¬ (n ≡ DONE) → IsRefused (WhyHeld held Why) n held put before after report
refused_with Why (Ok u) held put old new n before after report here there stays why number reported differs = absurd (differs number)
refused_with Why (Err r) held put old new n before after report here there stays why number reported differs = record {
  stays = there ∙ ap Some stays ∙ here;
  refusal = r;
  why = subst (λ (o : Option Held). WhyHeld o Why r) here why;
  reported = reported;
}

-- ---- what a call that answers a number alone leaves of a handle

pub of_handle : (Leaves : Held → ℕ → Held → Type 0) (held put : Option Held) (old new : Held) (n : ℕ)
    → Some old ≡ held → put ≡ Some new → Leaves old n new → OfHandle Leaves held n put
of_handle Leaves held put old new n here there leaves =
    subst (λ (o : Option Held). OfHandle Leaves o n put) here (new, leaves, there)

-- a setting of maps, before any pass
pub maps_set : (Set : FinMap text_cmp Map → ℕ → FinMap text_cmp Map → Type 0) (held : Held) (n : ℕ) (maps : FinMap text_cmp Map)
    → None ≡ fault_of_setting held.last → Set held.object.maps n maps
    → Sets (SetsMaps Set) held n (record held { object = record held.object { maps = maps } })
maps_set Set held n maps unmade is =
    let after : Held = record held { object = record held.object { maps = maps } } in
    subst (λ fault. MatchOption fault (SetsMaps Set held.object n after.object × (after.last ≡ held.last)) (λ refused. (n ≡ refused) × (after ≡ held)))
    unmade ((maps, is, refl), refl)

-- ---- the map of a name, set

module _ (set : Map → Map) (name : List ℕ) (before after : FinMap text_cmp Map) where
  abbrev Set : ℕ → Option Map → Type 0
  Set number found = MatchOption found ((number ≡ NO_MAP) × (after ≡ before)) (λ m. (number ≡ DONE) × (after ≡ insert before name (set m)))

  -- bytes that are no text
  pub no_text : ¬ (IsUtf8 name) → after ≡ before → IsSet set name before NO_MAP after
  no_text broken stays = subst (Set NO_MAP) (sym (named_by_none before name broken)) (refl, stays)

  -- a text that names no map
  pub no_map : (text : List ℕ) → text ≡ name → IsUtf8 name → None ≡ get before text → after ≡ before → IsSet set name before NO_MAP after
  no_map text same utf8 absent stays = subst (Set NO_MAP) (sym (named_by_text before name utf8 ∙ ap (get before) (sym same) ∙ sym absent)) (refl, stays)

  -- a text that names a map
  pub one_map : (text : List ℕ) (m : Map) → text ≡ name → IsUtf8 name → Some m ≡ get before text → after ≡ insert before name (set m) → IsSet set name before DONE after
  one_map text m same utf8 here is = subst (Set DONE) (sym (named_by_text before name utf8 ∙ ap (get before) (sym same) ∙ sym here)) (refl, is)

-- ---- out of memory names no function

pub unnamed : (e : EbpfRelocationError) → (is_memory_at e ≡ true → e ≡ out_of_memory) → NamesNoneForMemory e
unnamed e is memory = ap (λ (x : EbpfRelocationError). x.function) (is memory)
