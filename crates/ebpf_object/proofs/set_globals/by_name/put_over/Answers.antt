use Rattle.ebpf_object.proofs.VariableValues.{put_over as put_over_entries}
use Rattle.ebpf_object.proofs.set_globals.by_name.put_over.Goals as goal

pub returns : goal.returns
returns c = put_over_entries c.args.globals.now c.insert.new.self c.args.name c.args.value c.in_ok-insert.ensures.updates
