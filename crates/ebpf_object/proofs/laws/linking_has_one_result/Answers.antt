use Rattle.ebpf_object.proofs.OnePreparation as one
use Rattle.ebpf_object.proofs.laws.linking_has_one_result.Goals as goal

pub returns : goal.returns
returns c = one.one_linking
