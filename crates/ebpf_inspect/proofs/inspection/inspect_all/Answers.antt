use Rattle.std.proofs.Common.{subst}
use Rattle.ebpf_inspect.proofs.LinkingAfter.{refused_before, reported, unlinked, unwritten}
use Rattle.ebpf_object.proofs.Staging.{of_error, of_prepared, passed_on}
use Rattle.ebpf_object.specs.Prepared.{IsStageFault, RefusesPreparing, Stages}
use Rattle.ebpf_object.specs.Stages.{chosen}
use Rattle.ebpf_inspect.proofs.inspection.inspect_all.Goals as goal

pub returns-in-Err-clause-fault : goal.returns-in-Err-clause-fault
returns-in-Err-clause-fault g c =
    let lines = g.K.SymbolSource.source c.args.kallsyms in
    refused_before (chosen c.args.steps.now) lines c.args.object c.in-Err.error
    (subst (λ steps. RefusesPreparing (IsStageFault steps lines c.args.object) c.in-Err.error) c.without_calls.ensures c.in-Err.ensures.fault)

pub returns-in_err-check_externs-clause-fault : goal.returns-in_err-check_externs-clause-fault
returns-in_err-check_externs-clause-fault g c =
    let lines = g.K.SymbolSource.source c.args.kallsyms in
    let stages = subst (λ steps. Stages steps lines c.args.object c.in-Ok.prepared) c.without_calls.ensures c.in-Ok.ensures.stages in
    passed_on _ c.from_residual.result c.in_err-check_externs.field-0.0 c.from_residual.ensures.1
    (unwritten (chosen c.args.steps.now) lines c.args.object c.in-Ok.prepared stages c.in_err-check_externs.field-0.0 c.in_err-check_externs.ensures.fault)

pub returns-clause-reports : goal.returns-clause-reports
returns-clause-reports g c =
    let lines = g.K.SymbolSource.source c.args.kallsyms in
    let stages = subst (λ steps. Stages steps lines c.args.object c.in-Ok.prepared) c.without_calls.ensures c.in-Ok.ensures.stages in
    of_prepared c.report.result (reported (chosen c.args.steps.now) lines c.args.object c.in-Ok.prepared stages c.in_ok-check_externs.ensures.sound) c.report.ensures.reports

pub returns-clause-fault : goal.returns-clause-fault
returns-clause-fault g c =
    let lines = g.K.SymbolSource.source c.args.kallsyms in
    let stages = subst (λ steps. Stages steps lines c.args.object c.in-Ok.prepared) c.without_calls.ensures c.in-Ok.ensures.stages in
    of_error c.report.result (unlinked (chosen c.args.steps.now) lines c.args.object c.in-Ok.prepared stages c.in_ok-check_externs.ensures.sound) c.report.ensures.fault
