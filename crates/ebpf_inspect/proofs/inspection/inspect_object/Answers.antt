use Rattle.ebpf_inspect.proofs.LinkingAfter.{inspected}
use Rattle.ebpf_inspect.specs.Inspected.{with_linking}
use Rattle.ebpf_object.proofs.Staging.{of_error, of_prepared, file_refused}
use Rattle.ebpf_object.specs.Stages.{chosen}
use Rattle.ebpf_inspect.proofs.inspection.inspect_object.Goals as goal

pub returns-clause-inspected : goal.returns-clause-inspected
returns-clause-inspected g c mode file parsed =
    of_prepared c.inspect_all.result (λ rs of. inspected (chosen c.args.steps.now) (g.K.SymbolSource.source c.args.kallsyms) mode file rs c.args.object parsed of) c.inspect_all.ensures.reports

pub returns-clause-first_fault : goal.returns-clause-first_fault
returns-clause-first_fault g c mode file parsed =
    of_error c.inspect_all.result (file_refused (with_linking (chosen c.args.steps.now)) (g.K.SymbolSource.source c.args.kallsyms) mode file c.args.object parsed) c.inspect_all.ensures.fault
