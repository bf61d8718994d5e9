use Rattle.ebpf_core_candidates.proofs.Names.{has_names}
use Rattle.ebpf_core_candidates.proofs.type_index.TypeIndex.of_names.Goals as goal

pub returns-clause-names : goal.returns-clause-names
returns-clause-names c =
    has_names c.index_of.result c.args.local.now c.args.kinds.now c.kinds_of-kinds.result c.in_ok-marks.marks.items
    c.index_of.ensures.kinds c.index_of.ensures.marks c.kinds_of-kinds.ensures.listed c.in_ok-marks.ensures
