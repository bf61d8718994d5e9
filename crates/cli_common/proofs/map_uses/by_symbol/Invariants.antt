use Rattle.std.proofs.Common.{◌≡◌}
use Rattle.std.specs.List.{flat_map}
use Rattle.ebpf_base.specs.Maps.{put_all, by_bytes}
use Rattle.ebpf_parts.specs.Maps.{symbol_index_of}
use Rattle.cli_common.specs.FunctionMaps.{at_symbol, names_by_symbol}
use Rattle.cli_common.specs.PrivateContracts.{lent_names}
use Rattle.cli_common.proofs.map_uses.by_symbol.Given as goal

-- with the names of the maps that are left, all are there
abbrev pub invariant-loop-name : goal.invariant-loop-name
invariant-loop-name l =
    put_all (lent_names l.names) (flat_map (λ e. at_symbol (symbol_index_of e.1) e.0) (by_bytes l.name-iterator)) ≡ names_by_symbol l.object.maps
