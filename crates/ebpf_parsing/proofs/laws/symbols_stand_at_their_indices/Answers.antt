use Rattle.ebpf_parsing.proofs.TableKeys.{symbols_stand}
use Rattle.ebpf_parsing.proofs.laws.symbols_stand_at_their_indices.Goals as goal

pub returns : goal.returns
returns c = symbols_stand
