use Rattle.ebpf_reachability.proofs.Lawful as lawful
use Rattle.ebpf_reachability.proofs.laws.machines_are_reached.Goals as goal

pub returns-clause-reached : goal.returns-clause-reached
returns-clause-reached c = lawful.machines_are_reached

pub returns-clause-told : goal.returns-clause-told
returns-clause-told c = lawful.answers_cover_machines
