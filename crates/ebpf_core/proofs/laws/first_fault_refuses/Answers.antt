use Rattle.ebpf_core.proofs.Refused.{among_first, among_refuses, outcome_first, outcome_refuses}
use Rattle.ebpf_core.proofs.laws.first_fault_refuses.Goals as goal

pub returns-clause-among : goal.returns-clause-among
returns-clause-among c = among_first

pub returns-clause-among_refuses : goal.returns-clause-among_refuses
returns-clause-among_refuses c = among_refuses

pub returns-clause-outcome : goal.returns-clause-outcome
returns-clause-outcome c = outcome_first

pub returns-clause-outcome_refuses : goal.returns-clause-outcome_refuses
returns-clause-outcome_refuses c = outcome_refuses
