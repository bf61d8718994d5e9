use Rattle.ebpf_core_relo.proofs.RecordRuns as runs
use Rattle.ebpf_core_relo.proofs.laws.put_slots_stand.Goals as goal

pub returns-clause-slots : goal.returns-clause-slots
returns-clause-slots c = runs.put_slots_stand

pub returns-clause-shapes : goal.returns-clause-shapes
returns-clause-shapes c = runs.records_keep_shapes
