use Rattle.ebpf_core_relo.proofs.RecordRuns as runs
use Rattle.ebpf_core_relo.proofs.laws.records_have_slots.Goals as goal

pub returns-clause-located : goal.returns-clause-located
returns-clause-located c = runs.records_have_sections

pub returns-clause-slots : goal.returns-clause-slots
returns-clause-slots c = runs.records_have_slots
