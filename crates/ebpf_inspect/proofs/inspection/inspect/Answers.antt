use Rattle.ebpf_object.proofs.Staging.{parsed}
use Rattle.ebpf_inspect.proofs.inspection.inspect.Goals as goal
use Rattle.ebpf_parts.specs.declared.parse_mode.ParseMode.TheVariants.{Strict}

pub returns-in-Ok-clause-reports : goal.returns-in-Ok-clause-reports
returns-in-Ok-clause-reports g c =
    c.inspect_object.ensures.inspected Strict c.args.bytes.now (parsed Strict c.args.bytes.now c.in-Ok.object c.in-Ok.ensures.object c.in-Ok.ensures.fault)

pub returns-in-Ok-clause-fault : goal.returns-in-Ok-clause-fault
returns-in-Ok-clause-fault g c =
    c.inspect_object.ensures.first_fault Strict c.args.bytes.now (parsed Strict c.args.bytes.now c.in-Ok.object c.in-Ok.ensures.object c.in-Ok.ensures.fault)
