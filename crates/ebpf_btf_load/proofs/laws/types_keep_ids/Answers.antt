use Rattle.ebpf_btf_load.proofs.TypeIds.{other_types_stay, standins_are_last, types_keep_ids}
use Rattle.ebpf_btf_load.proofs.laws.types_keep_ids.Goals as goal

pub returns-clause-changed : goal.returns-clause-changed
returns-clause-changed c = types_keep_ids

pub returns-clause-others : goal.returns-clause-others
returns-clause-others c = other_types_stay

pub returns-clause-appended : goal.returns-clause-appended
returns-clause-appended c = standins_are_last
