use Rattle.std.proofs.Common.{◌≡◌, ◌++◌}
use Rattle.std.specs.List.{flat_map}
use Rattle.std.specs.Option.{option_to_list}
use Rattle.ebpf_base.specs.Maps.{by_bytes}
use Rattle.cli_common.specs.FunctionMaps.{map_use, uses_at}
use Rattle.cli_common.proofs.map_uses.uses_at.Given as goal

-- with the uses of the maps that are left, all are there
abbrev pub invariant-loop-name : goal.invariant-loop-name
invariant-loop-name l =
    l.uses ++ flat_map (λ e. option_to_list (map_use l.object e.0 e.1)) (by_bytes l.name-iterator) ≡ uses_at l.object l.fn.slots
