use Rattle.ebpf_core.proofs.SamePaths.{outcomes_are_of_same_paths, same_path_value_is_one, same_paths_are_outcomes}
use Rattle.ebpf_core.proofs.laws.one_same_path_value.Goals as goal

pub returns-clause-so : goal.returns-clause-so
returns-clause-so c = outcomes_are_of_same_paths

pub returns-clause-back : goal.returns-clause-back
returns-clause-back c = same_paths_are_outcomes

pub returns-clause-alone : goal.returns-clause-alone
returns-clause-alone c = same_path_value_is_one
