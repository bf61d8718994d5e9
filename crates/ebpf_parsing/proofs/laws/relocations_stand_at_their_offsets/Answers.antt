use Rattle.ebpf_parsing.proofs.TableKeys.{relocations_stand}
use Rattle.ebpf_parsing.proofs.laws.relocations_stand_at_their_offsets.Goals as goal

pub returns : goal.returns
returns c = relocations_stand
