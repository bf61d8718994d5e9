use Rattle.ebpf_reachability.proofs.Visiting as visiting
use Rattle.ebpf_reachability.proofs.laws.visits_are_reached.Goals as goal

pub returns-clause-heeding : goal.returns-clause-heeding
returns-clause-heeding c = visiting.visits_are_reached

pub returns-clause-all : goal.returns-clause-all
returns-clause-all c = visiting.all_visits_are_reached
