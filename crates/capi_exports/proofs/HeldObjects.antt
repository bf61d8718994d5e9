-- What calls leave of an object that a handle holds.
use Rattle.std.proofs.Common.{◌≡◌, ℕ, List, Option, Some, true, subst, sym, inr}
use Rattle.std.specs.Prelude.{MatchBool, Result}
use Rattle.ebpf_btf.specs.TypeInfo.{TypeInfo}
use Rattle.ebpf_ksyms.specs.Sources.{Text}
use Rattle.ebpf_object.specs.Headline.{Headline}
use Rattle.ebpf_object.specs.Prepared.{IsParsed, RefusesPreparing, Stages}
use Rattle.ebpf_object.specs.Stages.{Chosen, CompleteFdsFault, Descriptor}
use Rattle.ebpf_object.specs.UnchangedFields.{KeepsOthers}
use Rattle.ebpf_object.specs.declared.object.Object.{Object}
use Rattle.ebpf_object.specs.declared.prepare_error.PrepareError.{PrepareError}
use Rattle.ebpf_parts.specs.declared.parse_mode.ParseMode.{ParseMode}
use Rattle.capi_rows.specs.Descriptors.{CannotWriteMapFds, descriptors_in, have_names}
use Rattle.capi_rows.specs.Handles.{IsRefusal}
use Rattle.capi_rows.specs.Numbers.{prepare_refusal}
use Rattle.capi_rows.specs.Answers.{FillsListing, Listed}
use Rattle.capi_rows.specs.Reads.{of_open}
use Rattle.capi_rows.specs.Refusals.{plain}
use Rattle.capi_rows.specs.declared.codes.TheConstants.{BAD_NAME}
use Rattle.capi_rows.specs.declared.reads.ebpf_descriptor.{ebpf_descriptor}
use Rattle.capi_rows.specs.declared.refusal.Refusal.{Refusal}
use Rattle.capi_rows.specs.declared.buffers.ebpf_counts.{ebpf_counts}
use Rattle.capi_exports.specs.PassOrder.{object_in}
use Rattle.capi_exports.specs.declared.held.Held.{Held}
use Rattle.capi_exports.specs.KernelPasses.{HasPreparedHeldTo}
use Rattle.capi_exports.specs.Passes.{PreparationInputs, all_passes}

-- an object prepared by steps that are all passes
pub held_to : (kernel : TypeInfo) (inputs : PreparationInputs) (steps : Chosen) (old new : Object)
    → have_names inputs.text inputs.rows ≡ true → steps ≡ all_passes inputs (Some kernel) → Stages steps (Text inputs.symbols) old new
    → ((mode : ParseMode) (file : List ℕ) → IsParsed mode file old → Headline steps (Text inputs.symbols) mode file new)
    → KeepsOthers old new → HasPreparedHeldTo kernel inputs old new
held_to kernel inputs steps old new named all stages headline others = record {
  named = named;
  stages = subst (λ s. Stages s (Text inputs.symbols) old new) all stages;
  headline = λ mode file parsed. subst (λ s. Headline s (Text inputs.symbols) mode file new) all (headline mode file parsed);
  others_stay = others;
}

-- descriptors that are not complete, or that can't be written
pub incomplete : (rows : List ebpf_descriptor) (text : List ℕ) (o : Object) (ds : List Descriptor) (e : PrepareError) (r : Refusal) → have_names text rows ≡ true
    → ds ≡ descriptors_in text rows → RefusesPreparing (CompleteFdsFault ds o) e → r ≡ prepare_refusal e → CannotWriteMapFds rows text o r
incomplete rows text o ds e r named given fault is =
    subst (λ b. MatchBool b (IsRefusal (RefusesPreparing (CompleteFdsFault (descriptors_in text rows) o)) prepare_refusal r) (r ≡ plain BAD_NAME)) (sym named)
    (inr (e, subst (λ (given : List Descriptor). RefusesPreparing (CompleteFdsFault given o) e) given fault, is))

-- ---- what a call that lists leaves of the object of a handle

pub fills_held : {R : Type 0} (found : Object → Result (Listed R) ℕ) (held : Option Held) (x : Held) (n : ℕ) (rows rows_left : List R) (text text_left : List ℕ)
    (counts counts_left : ebpf_counts) → Some x ≡ held → FillsListing (found x.object) n rows rows_left text text_left counts counts_left
    → FillsListing (of_open found (object_in held)) n rows rows_left text text_left counts counts_left
fills_held found held x n rows rows_left text text_left counts counts_left here fills =
    subst (λ (h : Option Held). FillsListing (of_open found (object_in h)) n rows rows_left text text_left counts counts_left) here fills
