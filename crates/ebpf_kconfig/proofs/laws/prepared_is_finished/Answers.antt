use Rattle.ebpf_kconfig.proofs.DefinedSymbols.{prepared_is_finished}
use Rattle.ebpf_kconfig.proofs.laws.prepared_is_finished.Goals as goal

pub returns : goal.returns
returns c = prepared_is_finished
