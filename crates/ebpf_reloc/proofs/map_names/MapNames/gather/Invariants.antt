use Rattle.std.proofs.Common.{◌≡◌}
use Rattle.ebpf_base.specs.Maps.{by_bytes}
use Rattle.ebpf_reloc.specs.NamedSlots.{map_names, names_over}
use Rattle.ebpf_reloc.proofs.map_names.MapNames.gather.Given as goal

-- the names so far with those of the maps that are left are those of all maps
abbrev pub invariant-loop-name : goal.invariant-loop-name
invariant-loop-name l = names_over l.names (by_bytes l.name-iterator) ≡ map_names l.maps
