use Rattle.ebpf_reachability.proofs.Progress as progress
use Rattle.ebpf_reachability.proofs.laws.executions_go_on.Goals as goal

pub returns : goal.returns
returns c = progress.machines_go_on
