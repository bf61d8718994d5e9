use Rattle.ebpf_core_relo.proofs.RecordRuns as runs
use Rattle.ebpf_core_relo.proofs.laws.other_slots_stay.Goals as goal

pub returns-clause-slots : goal.returns-clause-slots
returns-clause-slots c = runs.other_slots_stay

pub returns-clause-as_many : goal.returns-clause-as_many
returns-clause-as_many c = runs.slots_stay_as_many
