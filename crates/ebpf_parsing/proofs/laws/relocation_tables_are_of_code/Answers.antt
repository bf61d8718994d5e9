use Rattle.ebpf_parsing.proofs.TableKeys as tables
use Rattle.ebpf_parsing.proofs.laws.relocation_tables_are_of_code.Goals as goal

pub returns : goal.returns
returns c = tables.tables_of_code
