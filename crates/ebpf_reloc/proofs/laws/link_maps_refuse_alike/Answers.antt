use Rattle.ebpf_reloc.proofs.OneResult as map
use Rattle.ebpf_reloc.proofs.laws.link_maps_refuse_alike.Goals as goal

pub returns-clause-first : goal.returns-clause-first
returns-clause-first c = map.first_without_map

pub returns-clause-none : goal.returns-clause-none
returns-clause-none c = map.all_with_maps
