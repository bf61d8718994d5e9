use Rattle.ebpf_parsing.proofs.TableKeys.{externs_stand}
use Rattle.ebpf_parsing.proofs.laws.externs_are_unresolved.Goals as goal

pub returns : goal.returns
returns c = externs_stand
