use Rattle.ebpf_object.specs.Stages.{chosen}
use Rattle.ebpf_object.proofs.Headline.{headline}
use Rattle.ebpf_object.proofs.Staging.{file_refused, prepared_file}
use Rattle.ebpf_object.proofs.prepare.prepare_in_place.Goals as goal

pub returns-in-Ok-run_stages-clause-headline : goal.returns-in-Ok-run_stages-clause-headline
returns-in-Ok-run_stages-clause-headline g c mode file parsed =
    let s = chosen c.args.steps.now in
    let lines = g.K.SymbolSource.source c.args.kallsyms in
    let after = c.run_stages.new.object in
    headline s lines mode file after (prepared_file s lines mode file c.args.object.now parsed after c.in-Ok-run_stages.ensures.ok)

pub returns-in-Err-clause-first_fault : goal.returns-in-Err-clause-first_fault
returns-in-Err-clause-first_fault g c mode file parsed =
    file_refused (chosen c.args.steps.now) (g.K.SymbolSource.source c.args.kallsyms) mode file c.args.object.now parsed c.in-Err.error c.in-Err.ensures.fault
