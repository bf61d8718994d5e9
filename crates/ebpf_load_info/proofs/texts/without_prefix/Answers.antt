use Rattle.ebpf_load_info.proofs.FirstFound.{strips_text}
use Rattle.ebpf_load_info.proofs.texts.without_prefix.Goals as goal

pub returns : goal.returns
returns c = strips_text c.args.prefix.now c.args.text.now c.strip_prefix.result c.strip_prefix.ensures.cases
