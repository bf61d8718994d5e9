use Rattle.std.proofs.Common.{◌≡◌, drop}
use Rattle.std.specs.FinMap.{entries}
use Rattle.ebpf_base.specs.Faults.{first_some}
use Rattle.ebpf_base.specs.Maps.{by_bytes}
use Rattle.ebpf_btf_maps.specs.Arenas.{named_arena}
use Rattle.ebpf_btf_maps.proofs.arena.arena_of.Given as goal

-- the first of the maps that are left is the first of all
abbrev pub invariant-loop-name : goal.invariant-loop-name
invariant-loop-name l = first_some named_arena (by_bytes l.name-iterator) ≡ first_some named_arena (entries l.object.maps)
