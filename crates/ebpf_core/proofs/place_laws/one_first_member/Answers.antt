use Rattle.ebpf_core.proofs.PlacePaths.{one_first_member}
use Rattle.ebpf_core.proofs.place_laws.one_first_member.Goals as goal

pub returns : goal.returns
returns c = λ local target name local_type parent a b. one_first_member local target name local_type parent a b
