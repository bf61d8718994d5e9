use Rattle.ebpf_parsing.proofs.PlainFaults.{lenient_refuses_no_name}
use Rattle.ebpf_parsing.proofs.laws.lenient_refuses_no_name.Goals as goal

pub returns : goal.returns
returns c = lenient_refuses_no_name
