-- The verdicts on a program and on an object, put together from their parts.
use Rattle.std.proofs.Common.{◌≡◌, Bool, true, false, ℕ, List, [], Some, None, Ok, Err, sym, subst, refl, ap, ◌∙◌}
use Rattle.std.specs.Prelude.{IfOk, MatchBool, Result, ⊤}
use Rattle.std.proofs.lemmas.Bool.{MatchBool-at_false}
use Rattle.std.specs.declared.alloc.AllocError.{AllocError}
use Rattle.ebpf_btf.specs.TypeInfo.{TypeInfo}
use Rattle.ebpf_core_relo.specs.Records.{Written}
use Rattle.ebpf_core_relo.specs.declared.outcomes.RecordOutcome.{RecordOutcome}
use Rattle.ebpf_object.specs.LinkedPrograms.{linkable_of, programs_in_order}
use Rattle.ebpf_object.specs.Names.{has_function_in}
use Rattle.ebpf_object.specs.WrittenSlots.{AreRecordOutcomes}
use Rattle.ebpf_object.specs.declared.object.Object.{Object}
use Rattle.ebpf_object.specs.declared.prepare_error.PrepareError.{PrepareError}
use Rattle.ebpf_parts.specs.declared.insn.bpf_insn.{bpf_insn}
use Rattle.ebpf_reachability.specs.Reached.{AreReached}
use Rattle.ebpf_reloc.specs.Linking.{IsLinked, IsLinkMapAt, IsProgramRefusal, ProgramValue}
use Rattle.ebpf_reloc.specs.SlotTargets.{LinkableValue}
use Rattle.ebpf_reloc.specs.declared.linking.LinkedFunction.{LinkedFunction}
use Rattle.ebpf_model.specs.Memory.{is_memory_at}
use Rattle.ebpf_model.specs.Symbols.{FunctionKey}
use Rattle.ebpf_model.specs.declared.error.EbpfRelocationError.{EbpfRelocationError}
use Rattle.ebpf_object.specs.declared.prepare_error.PrepareError.TheVariants.{Calls}
use Rattle.ebpf_verdict.specs.Reasons.{reasons_of}
use Rattle.ebpf_verdict.specs.Verdicts.{AreVerdicts, IsCode, IsJudged, IsProgramVerdict, IsVerdict, has_empty_section, map_types, refused_in}
use Rattle.ebpf_verdict.specs.declared.programs.ProgramCode.{ProgramCode}
use Rattle.ebpf_verdict.specs.declared.programs.ProgramCode.TheVariants as code
use Rattle.ebpf_verdict.specs.declared.reasons.SlotReason.{SlotReason}
use Rattle.ebpf_verdict.specs.Writing.{IsWrittenAs, IsWrittenOver}
use Rattle.ebpf_verdict.specs.declared.externs.LackingExtern.{LackingExtern}
use Rattle.ebpf_verdict.specs.declared.programs.ProgramVerdict.{ProgramVerdict}
use Rattle.ebpf_verdict.specs.declared.verdict.Verdict.{Verdict}

-- ---- a program

module _ (kernel : TypeInfo) (maps : List ℕ) (records : List RecordOutcome) (parts : LinkableValue) where
  pub is_judged : (key : FunctionKey) (linked : LinkedFunction) (reached : List Bool) (reasons : List SlotReason) (refused : List ℕ) → IsLinked parts key linked.function → IsLinkMapAt parts key linked.map
      → AreReached linked.function.instructions reached → reasons ≡ reasons_of kernel maps reached linked.function.instructions → refused ≡ refused_in linked.map.copies records
      → IsJudged kernel maps records parts key (record { linked = linked; reached = reached; reasons = reasons; refused = refused })
  is_judged key linked reached reasons refused is mapped are told apart = record { linked = is; mapped = mapped; reached = are; reasons = told; refused = apart }

  pub refused_code : (program : ProgramValue) (error : EbpfRelocationError) (c : ProgramCode) → MatchBool (is_memory_at error) ⊤ (IsProgramRefusal parts program error) → (c ≡ code.Refused (Calls error)) × (is_memory_at error ≡ false) → IsCode kernel maps records parts program c
  refused_code program error c fault is =
      subst (λ (x : ProgramCode). IsCode kernel maps records parts program x) (sym is.0) (error, refl, MatchBool-at_false _ _ is.1 fault)

  pub is_verdict : (program : ProgramValue) (name : List ℕ) (c : ProgramCode) → name ≡ program.name → IsCode kernel maps records parts program c → IsProgramVerdict kernel maps records parts program (record { name = name; code = c })
  is_verdict program name c named outcome = record { named = named; outcome = outcome }

-- ---- an object

module _ (o : Object) (kernel : TypeInfo) (records : List RecordOutcome) (flag : Bool) (slots : Written) (empty : flag ≡ has_empty_section o.btf_ext) (outcomes : AreRecordOutcomes o kernel (record { records = records; written = slots })) where
  -- where a pass refuses it
  pub of_refused : (lacking : List LackingExtern) (programs : List ProgramVerdict) (e : PrepareError) → IsVerdict o kernel (record { records = records; has_empty_section = flag; lacking = lacking; refusal = Some e; programs = programs })
  of_refused lacking programs e = record {
    slots = slots;
    records = outcomes;
    sections = empty;
    unlinked = o;
    written = λ unrefused. absurd (clash unrefused);
    programs = λ unrefused. absurd (clash unrefused);
  }
    where
      clash : Some e ≡ None → ⊥
      clash h = cc

  -- where it was written
  pub of_written : (lacking : List LackingExtern) (programs : List ProgramVerdict) (unlinked : Object)
      → AreVerdicts kernel (map_types o) records (linkable_of unlinked (has_function_in unlinked.functions)) (programs_in_order o.programs) programs → (lacking ≡ [] → IsWrittenOver kernel slots o unlinked)
      → IsVerdict o kernel (record { records = records; has_empty_section = flag; lacking = lacking; refusal = None; programs = programs })
  of_written lacking programs unlinked judged written = record {
    slots = slots;
    records = outcomes;
    sections = empty;
    unlinked = unlinked;
    written = λ unrefused. written;
    programs = λ unrefused. judged;
  }

-- the same, by what the programs come to
pub of_programs : (o : Object) (kernel : TypeInfo) (records : List RecordOutcome) (flag : Bool) (lacking : List LackingExtern) (unlinked : Object) (judged : Result (List ProgramVerdict) AllocError) (v : Verdict)
    → flag ≡ has_empty_section o.btf_ext
    → IfOk judged (λ all. AreVerdicts kernel (map_types o) records (linkable_of unlinked (has_function_in unlinked.functions)) (programs_in_order o.programs) all)
    → (v ≡ record { records = records; has_empty_section = flag; lacking = lacking; refusal = None; programs = v.programs }) × (judged ≡ Ok v.programs)
    → (slots : Written)
    → AreRecordOutcomes o kernel (record { records = records; written = slots })
    → IsWrittenAs kernel slots o (Ok (record { object = unlinked; lacking = lacking }))
    → IsVerdict o kernel v
of_programs o kernel records flag lacking unlinked judged v empty are is slots outcomes written =
    subst (λ (x : Verdict). IsVerdict o kernel x) (sym is.0)
    (of_written o kernel records flag slots empty outcomes lacking v.programs unlinked
    (subst (λ (r : Result (List ProgramVerdict) AllocError). IfOk r (λ all. AreVerdicts kernel (map_types o) records (linkable_of unlinked (has_function_in unlinked.functions)) (programs_in_order o.programs) all)) is.1 are) written)

-- the same, whatever comes of it
pub of_result : (o : Object) (kernel : TypeInfo) (records : List RecordOutcome) (flag : Bool) (lacking : List LackingExtern) (unlinked : Object) (judged : Result (List ProgramVerdict) AllocError) (r : Result Verdict AllocError)
    → flag ≡ has_empty_section o.btf_ext
    → IfOk judged (λ all. AreVerdicts kernel (map_types o) records (linkable_of unlinked (has_function_in unlinked.functions)) (programs_in_order o.programs) all)
    → IfOk r (λ v. (v ≡ record { records = records; has_empty_section = flag; lacking = lacking; refusal = None; programs = v.programs }) × (judged ≡ Ok v.programs))
    → IfOk r (λ v. (slots : Written) → AreRecordOutcomes o kernel (record { records = records; written = slots }) → IsWrittenAs kernel slots o (Ok (record { object = unlinked; lacking = lacking })) → IsVerdict o kernel v)
of_result o kernel records flag lacking unlinked judged (Err e) empty are is = tt
of_result o kernel records flag lacking unlinked judged (Ok v) empty are is = of_programs o kernel records flag lacking unlinked judged v empty are is
