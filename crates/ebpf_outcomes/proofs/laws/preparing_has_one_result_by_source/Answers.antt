use Rattle.ebpf_outcomes.proofs.OneResult as one
use Rattle.ebpf_outcomes.proofs.laws.preparing_has_one_result_by_source.Goals as goal

pub returns-clause-object : goal.returns-clause-object
returns-clause-object c = one.one_staging

pub returns-clause-file : goal.returns-clause-file
returns-clause-file c = one.one_preparation
