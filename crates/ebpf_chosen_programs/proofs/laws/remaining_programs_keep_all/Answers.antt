use Rattle.ebpf_chosen_programs.proofs.LeftOut as left
use Rattle.ebpf_chosen_programs.proofs.laws.remaining_programs_keep_all.Goals as goal

pub returns-clause-relocations : goal.returns-clause-relocations
returns-clause-relocations c = left.relocations_stay

pub returns-clause-references : goal.returns-clause-references
returns-clause-references c = left.references_stay

pub returns-clause-externs : goal.returns-clause-externs
returns-clause-externs c = left.externs_stay
