use Rattle.ebpf_parsing.proofs.TableKeys.{functions_stand}
use Rattle.ebpf_parsing.proofs.laws.functions_stand_at_their_keys.Goals as goal

pub returns : goal.returns
returns c = functions_stand
