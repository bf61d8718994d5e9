use Rattle.std.proofs.Common.{◌≡◌, ◌++◌, map, drop}
use Rattle.ebpf_base.specs.Maps.{by_bytes}
use Rattle.ebpf_object.specs.PrivateContracts.{AreEntriesOf}
use Rattle.ebpf_object.specs.Stages.{own_maps, descriptor_of}
use Rattle.ebpf_reloc.specs.Maps.{given_map}
use Rattle.ebpf_object.proofs.own_maps.own_maps.Given as goal

-- with those of the names that are left, all are there; the entries ahead are of these maps
abbrev pub invariant-loop-name : goal.invariant-loop-name
invariant-loop-name l = record {
  listed : map given_map l.own.items ++ own_maps l.maps (map descriptor_of (drop l.name-index l.descriptors)) ≡ own_maps l.fn.maps (map descriptor_of l.fn.descriptors);
  entries : AreEntriesOf l.maps (by_bytes l.ahead);
}
