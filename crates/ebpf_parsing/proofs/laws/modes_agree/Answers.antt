use Rattle.ebpf_parsing.proofs.Alike.{modes_agree}
use Rattle.ebpf_parsing.proofs.laws.modes_agree.Goals as goal

pub returns : goal.returns
returns c = modes_agree
