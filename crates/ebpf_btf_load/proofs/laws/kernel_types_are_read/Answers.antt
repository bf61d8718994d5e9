use Rattle.ebpf_btf_load.proofs.Handed.{function_linkages_are_stated, kernel_types_are_read}
use Rattle.ebpf_btf_load.proofs.laws.kernel_types_are_read.Goals as goal

pub returns-clause-types : goal.returns-clause-types
returns-clause-types c = kernel_types_are_read

pub returns-clause-linkages : goal.returns-clause-linkages
returns-clause-linkages c = function_linkages_are_stated
