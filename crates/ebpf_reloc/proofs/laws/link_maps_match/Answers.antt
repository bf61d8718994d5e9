use Rattle.ebpf_reloc.proofs.OneResult as map
use Rattle.ebpf_reloc.proofs.laws.link_maps_match.Goals as goal

pub returns-clause-tell : goal.returns-clause-tell
returns-clause-tell c = map.link_maps_match

pub returns-clause-linked : goal.returns-clause-linked
returns-clause-linked c = map.mapped_are_linked
