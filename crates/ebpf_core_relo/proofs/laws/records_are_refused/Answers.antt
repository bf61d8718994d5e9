use Rattle.ebpf_core_relo.proofs.Refused.{are_refused, refuse}
use Rattle.ebpf_core_relo.proofs.laws.records_are_refused.Goals as goal

pub returns-clause-refused : goal.returns-clause-refused
returns-clause-refused c = are_refused

pub returns-clause-alone : goal.returns-clause-alone
returns-clause-alone c = refuse
