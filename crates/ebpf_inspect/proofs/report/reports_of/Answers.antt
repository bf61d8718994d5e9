use Rattle.std.proofs.Common.{◌+◌, [], ◌∷◌, ◌++◌, take, subst, sym, ap, ◌∙◌, Some}
use Rattle.std.specs.List.{AllZip}
use Rattle.std.proofs.lemmas.List.{take_more}
use Rattle.std.proofs.lemmas.Option.{slice_get-get_or}
use Rattle.std.proofs.lemmas.Slice.Zip.{all_zipped_more}
use Rattle.ebpf_inspect.proofs.Reports.{first_refused}
use Rattle.ebpf_inspect.specs.Named.{IsProgramReport}
use Rattle.ebpf_object.proofs.Staging.{passed_on}
use Rattle.ebpf_reloc.specs.SlotTargets.{read}
use Rattle.ebpf_inspect.proofs.report.reports_of.Goals as goal

pub returns-in_err-report-clause-fault : goal.returns-in_err-report-clause-fault
returns-in_err-report-clause-fault c =
    let ps = c.args.programs.now in
    let i = c.loop-program.program-index in
    let p = c.program-item.result in
    passed_on _ c.from_residual-in_err-report.result c.in_err-report.field-0.0 c.from_residual-in_err-report.ensures.1
    (first_refused (read c.args.functions.now.parts) ps c.loop-program.reports.items i p c.loop-program.invariant (slice_get-get_or ps i p c.loop-program-test.true ∙ ap Some (sym c.program-item.is)) c.in_err-report.field-0.0 c.in_err-report.ensures.fault)

pub loop-program-preserved : goal.loop-program-preserved
loop-program-preserved c =
    let are = IsProgramReport (read c.args.functions.now.parts) in
    let ps = c.args.programs.now in
    let i = c.loop-program.program-index in
    let p = c.program-item.result in
    let so_far = c.loop-program.reports.items in
    let r = c.in_ok-report.report in
    subst (λ rs. AllZip are (take (i + 1) ps) rs) (sym c.in-Ok.ensures.items)
    (subst (λ qs. AllZip are qs (so_far ++ r ∷ [])) (ap (λ q. take i ps ++ q ∷ []) c.program-item.is ∙ sym (take_more ps i p c.loop-program-test.true))
    (all_zipped_more are (take i ps) so_far p r c.loop-program.invariant c.in_ok-report.ensures.report))
