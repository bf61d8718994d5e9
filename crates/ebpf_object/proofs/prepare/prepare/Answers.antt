use Rattle.ebpf_object.proofs.Staging.{parsed}
use Rattle.ebpf_object.proofs.prepare.prepare.Goals as goal
use Rattle.ebpf_parts.specs.declared.parse_mode.ParseMode.TheVariants.{Strict}

pub returns-in-Ok-clause-headline : goal.returns-in-Ok-clause-headline
returns-in-Ok-clause-headline g c =
    c.prepare_object.ensures.headline Strict c.args.bytes.now (parsed Strict c.args.bytes.now c.in-Ok.object c.in-Ok.ensures.object c.in-Ok.ensures.fault)

pub returns-in-Ok-clause-fault : goal.returns-in-Ok-clause-fault
returns-in-Ok-clause-fault g c =
    c.prepare_object.ensures.first_fault Strict c.args.bytes.now (parsed Strict c.args.bytes.now c.in-Ok.object c.in-Ok.ensures.object c.in-Ok.ensures.fault)
