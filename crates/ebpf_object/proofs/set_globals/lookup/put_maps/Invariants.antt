use Rattle.std.proofs.Common.{◌≡◌, drop}
use Rattle.ebpf_base.specs.Maps.{lent_bytes}
use Rattle.ebpf_object.specs.Names.{with_map_names}
use Rattle.ebpf_object.proofs.set_globals.lookup.put_maps.Given as goal

-- what is left to put from here is what was to put from the start
abbrev pub invariant-loop-name : goal.invariant-loop-name
invariant-loop-name l = with_map_names l.maps l.found (lent_bytes (drop l.name-index l.names)) ≡ with_map_names l.maps l.fn.found (lent_bytes l.names)
