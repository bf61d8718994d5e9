use Rattle.ebpf_core_relo.proofs.FirstRefusal.{first_refusal, same_slots}
use Rattle.ebpf_core_relo.proofs.laws.first_refusal_is_the_fault.Goals as goal

pub returns-clause-fault : goal.returns-clause-fault
returns-clause-fault c = first_refusal

pub returns-clause-slots : goal.returns-clause-slots
returns-clause-slots c = same_slots
