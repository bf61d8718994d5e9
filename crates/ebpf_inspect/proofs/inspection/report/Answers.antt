use Rattle.std.proofs.Common.{ap, ◌∙◌, subst}
use Rattle.std.specs.List.{AllZip}
use Rattle.ebpf_inspect.proofs.Reports.{with_linked}
use Rattle.ebpf_inspect.specs.Named.{IsProgramReport}
use Rattle.ebpf_object.proofs.Staging.{of_error, of_prepared}
use Rattle.ebpf_object.specs.LinkedPrograms.{linkable_of, programs_in_order}
use Rattle.ebpf_object.specs.Prepared.{RefusesPreparing}
use Rattle.ebpf_object.specs.Stages.{Wrapped}
use Rattle.ebpf_object.specs.declared.prepare_error.PrepareError.TheVariants.{Calls}
use Rattle.ebpf_reloc.specs.Linking.{IsFirstRefusal}
use Rattle.ebpf_reloc.specs.SlotTargets.{read}
use Rattle.ebpf_inspect.proofs.inspection.report.Goals as goal

pub returns-clause-reports : goal.returns-clause-reports
returns-clause-reports c =
    let o = c.args.object.now in
    let parts = c.in-Ok.ensures.parts ∙ ap (linkable_of o) c.in_ok-text_sections.ensures in
    let programs = c.deref.ensures.value ∙ c.in_ok-programs.ensures in
    of_prepared c.reports_of.result
    (λ rs each. with_linked o rs
    (subst (λ x. AllZip (IsProgramReport x) (programs_in_order o.programs) rs) parts (subst (λ ps. AllZip (IsProgramReport (read c.in-Ok.of.functions.parts)) ps rs) programs each)))
    c.reports_of.ensures.reports

pub returns-clause-fault : goal.returns-clause-fault
returns-clause-fault c =
    let o = c.args.object.now in
    let parts = c.in-Ok.ensures.parts ∙ ap (linkable_of o) c.in_ok-text_sections.ensures in
    let programs = c.deref.ensures.value ∙ c.in_ok-programs.ensures in
    of_error c.reports_of.result
    (λ e refused.
    subst (λ x. RefusesPreparing (Wrapped Calls (IsFirstRefusal x (programs_in_order o.programs))) e) parts
    (subst (λ ps. RefusesPreparing (Wrapped Calls (IsFirstRefusal (read c.in-Ok.of.functions.parts) ps)) e) programs refused))
    c.reports_of.ensures.fault
