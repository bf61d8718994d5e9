use Rattle.ebpf_load_info.proofs.Wanted.{no_head}
use Rattle.ebpf_load_info.proofs.attach_all.is_wanted.Goals as goal

pub returns-in_default : goal.returns-in_default
returns-in_default c = no_head c.args.types.now c.args.id c.in_default.ensures.kind c.args.wanted.now
