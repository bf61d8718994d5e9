use Rattle.ebpf_exceptions.proofs.Completed.{strips_mark}
use Rattle.ebpf_exceptions.proofs.tags.behind_mark.Goals as goal

pub returns : goal.returns
returns c = strips_mark c.args.text.now c.strip_prefix.result c.strip_prefix.ensures.cases
