use Rattle.ebpf_reachability.proofs.Executions as executions
use Rattle.ebpf_reachability.proofs.laws.executions_are_reached.Goals as goal

pub returns-clause-agree : goal.returns-clause-agree
returns-clause-agree c = executions.executions_agree

pub returns-clause-reached : goal.returns-clause-reached
returns-clause-reached c = executions.executions_are_reached
