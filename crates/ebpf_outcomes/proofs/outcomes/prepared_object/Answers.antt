use Rattle.ebpf_object.specs.Stages.{chosen}
use Rattle.ebpf_object.proofs.Headline.{headline}
use Rattle.ebpf_object.proofs.Staging.{of_error, of_prepared, file_refused, prepared_file}
use Rattle.ebpf_outcomes.proofs.outcomes.prepared_object.Goals as goal

pub returns-clause-headline : goal.returns-clause-headline
returns-clause-headline g c mode file parsed =
    let s = chosen c.args.steps.now in
    let lines = g.K.SymbolSource.source c.args.kallsyms in
    of_prepared c.run_all.result (λ p has. headline s lines mode file p.object (prepared_file s lines mode file c.args.object parsed p.object has.stages)) c.run_all.ensures.outcomes

pub returns-clause-first_fault : goal.returns-clause-first_fault
returns-clause-first_fault g c mode file parsed =
    of_error c.run_all.result (file_refused (chosen c.args.steps.now) (g.K.SymbolSource.source c.args.kallsyms) mode file c.args.object parsed) c.run_all.ensures.fault
