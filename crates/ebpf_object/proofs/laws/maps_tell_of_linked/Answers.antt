use Rattle.ebpf_object.proofs.ProgramNames as maps
use Rattle.ebpf_object.proofs.laws.maps_tell_of_linked.Goals as goal

pub returns : goal.returns
returns c = maps.maps_tell_of_linked
