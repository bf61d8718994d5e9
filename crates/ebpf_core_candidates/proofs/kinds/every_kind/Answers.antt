use Rattle.std.proofs.Common.{true, false}
use Rattle.std.proofs.lemmas.List.{get_or-replicate}
use Rattle.ebpf_btf.specs.Types.{kind_number}
use Rattle.ebpf_core_candidates.proofs.Names.{number_below}
use Rattle.ebpf_core_candidates.proofs.kinds.every_kind.Goals as goal

pub returns-clause-all : goal.returns-clause-all
returns-clause-all c = λ kind. get_or-replicate 20 (kind_number kind) true false (number_below kind)
