use Rattle.ebpf_parsing.proofs.TableKeys.{programs_stand}
use Rattle.ebpf_parsing.proofs.laws.programs_have_functions.Goals as goal

pub returns : goal.returns
returns c = programs_stand
