use Rattle.ebpf_reloc.proofs.OneResult as one
use Rattle.ebpf_reloc.proofs.laws.one_result.Goals as goal

pub returns-clause-result : goal.returns-clause-result
returns-clause-result c = one.one_result

pub returns-clause-program : goal.returns-clause-program
returns-clause-program c = one.one_program_each
