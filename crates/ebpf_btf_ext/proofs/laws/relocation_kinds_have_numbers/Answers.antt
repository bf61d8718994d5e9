use Rattle.ebpf_btf_ext.proofs.Relocations.{numbers_of_relocation_kinds, relocation_kinds_by_number}
use Rattle.ebpf_btf_ext.proofs.laws.relocation_kinds_have_numbers.Goals as goal

pub returns-clause-kinds : goal.returns-clause-kinds
returns-clause-kinds c = relocation_kinds_by_number

pub returns-clause-numbers : goal.returns-clause-numbers
returns-clause-numbers c = numbers_of_relocation_kinds
