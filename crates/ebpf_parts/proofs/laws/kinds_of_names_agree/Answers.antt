use Rattle.ebpf_parts.proofs.ProgramKinds.{types_agree}
use Rattle.ebpf_parts.proofs.laws.kinds_of_names_agree.Goals as goal

pub returns : goal.returns
returns c = types_agree
