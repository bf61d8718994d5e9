use Rattle.ebpf_parsing.proofs.TableKeys as tables
use Rattle.ebpf_parsing.proofs.laws.relocations_name_symbols.Goals as goal

pub returns : goal.returns
returns c = tables.relocations_name_symbols
