use Rattle.std.proofs.Common.{◌≡◌, map}
use Rattle.ebpf_reloc.specs.Maps.{given_map, tables_of}
use Rattle.ebpf_reloc.proofs.maps.MapTables.gather.Given as goal

abbrev pub invariant-loop-descriptor : goal.invariant-loop-descriptor
invariant-loop-descriptor g l = l.tables ≡ tables_of (map given_map l.yielded)
