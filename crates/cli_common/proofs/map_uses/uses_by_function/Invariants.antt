use Rattle.std.proofs.Common.{◌≡◌}
use Rattle.std.specs.FinMap.{empty, entries}
use Rattle.std.specs.List.{flat_map}
use Rattle.ebpf_base.specs.Maps.{put_all}
use Rattle.cli_common.specs.FunctionMaps.{if_used, maps_used}
use Rattle.cli_common.specs.PrivateContracts.{names_in}
use Rattle.cli_common.proofs.map_uses.uses_by_function.Given as goal

-- with those of the functions that are left, all are there
abbrev pub invariant-loop-key : goal.invariant-loop-key
invariant-loop-key l =
    put_all l.all (flat_map (λ e. if_used e.0 (maps_used l.object (names_in l.names) e.1)) l.key-iterator)
    ≡ put_all empty (flat_map (λ e. if_used e.0 (maps_used l.object (names_in l.names) e.1)) (entries l.object.functions))
