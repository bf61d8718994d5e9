use Rattle.ebpf_reloc.proofs.OneResult as map
use Rattle.ebpf_reloc.proofs.laws.one_link_map.Goals as goal

pub returns-clause-map : goal.returns-clause-map
returns-clause-map c = map.one

pub returns-clause-answer : goal.returns-clause-answer
returns-clause-answer c = map.one_answer

pub returns-clause-refusal : goal.returns-clause-refusal
returns-clause-refusal c = map.refused_as_linking
