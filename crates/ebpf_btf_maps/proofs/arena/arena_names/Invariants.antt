use Rattle.std.proofs.Common.{◌≡◌, ◌++◌}
use Rattle.std.specs.List.{flat_map}
use Rattle.ebpf_base.specs.Maps.{by_bytes}
use Rattle.ebpf_btf_maps.specs.Arenas.{arena_name, arena_names}
use Rattle.ebpf_btf_maps.proofs.arena.arena_names.Given as goal

-- with the arenas among the maps that are left, all are there
abbrev pub invariant-loop-name : goal.invariant-loop-name
invariant-loop-name l = l.names ++ flat_map arena_name (by_bytes l.name-iterator) ≡ arena_names l.maps
