use Rattle.ebpf_parsing.proofs.TableKeys.{maps_have_symbols, others_of_data}
use Rattle.ebpf_parsing.proofs.laws.maps_have_their_symbols.Goals as goal

pub returns-clause-symbols : goal.returns-clause-symbols
returns-clause-symbols c = maps_have_symbols

pub returns-clause-others : goal.returns-clause-others
returns-clause-others c = others_of_data
