use Rattle.ebpf_btf.proofs.KindRows.{kinds_by_number, numbers_of_kinds}
use Rattle.ebpf_btf.proofs.laws.kinds_have_numbers.Goals as goal

pub returns-clause-kinds : goal.returns-clause-kinds
returns-clause-kinds c = kinds_by_number

pub returns-clause-numbers : goal.returns-clause-numbers
returns-clause-numbers c = numbers_of_kinds
