use Rattle.ebpf_parsing.proofs.SectionTables as tables
use Rattle.ebpf_parsing.proofs.laws.sections_tile.Goals as goal

pub returns-clause-at_each_address : goal.returns-clause-at_each_address
returns-clause-at_each_address c = tables.at_each_address

pub returns-clause-in_order : goal.returns-clause-in_order
returns-clause-in_order c = tables.in_order

pub returns-clause-tiled : goal.returns-clause-tiled
returns-clause-tiled c = tables.sections_tile
