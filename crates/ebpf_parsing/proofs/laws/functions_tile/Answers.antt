use Rattle.ebpf_sections.proofs.Tiles as tiles
use Rattle.ebpf_parsing.proofs.laws.functions_tile.Goals as goal

pub returns : goal.returns
returns c = tiles.functions_tile
