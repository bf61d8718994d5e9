use Rattle.ebpf_core.proofs.MatchSteps.{first_is, one_first}
use Rattle.ebpf_core.proofs.laws.one_first_variant.Goals as goal

pub returns-clause-so : goal.returns-clause-so
returns-clause-so c = first_is

pub returns-clause-alone : goal.returns-clause-alone
returns-clause-alone c = one_first
