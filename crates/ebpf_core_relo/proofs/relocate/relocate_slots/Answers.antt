use Rattle.ebpf_core_relo.proofs.Refused.{are_refused, refused_so}
use Rattle.ebpf_core_relo.specs.Records.{relocation_inputs_between, RecordsAreRefused}
use Rattle.ebpf_core_relo.proofs.relocate.relocate_slots.Goals as goal

pub returns-clause-refused : goal.returns-clause-refused
returns-clause-refused c =
    let inputs = relocation_inputs_between c.args.local.now c.args.target.now c.args.functions.now c.args.section_infos.now in
    refused_so (RecordsAreRefused inputs c.args.relocations.now.relocations) _ (are_refused inputs c.args.relocations.now.relocations) _ c.written_slots.ensures.fault
