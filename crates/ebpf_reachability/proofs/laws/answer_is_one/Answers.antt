use Rattle.ebpf_reachability.proofs.Lawful as lawful
use Rattle.ebpf_reachability.proofs.laws.answer_is_one.Goals as goal

pub returns : goal.returns
returns c = lawful.answer_is_one
