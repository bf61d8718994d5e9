use Rattle.std.proofs.Common.{◌≡◌, ◌++◌, map, drop}
use Rattle.std.specs.Prelude.{pos}
use Rattle.ebpf_object.specs.Stages.{descriptor_of, numbered_descriptors}
use Rattle.ebpf_object.proofs.own_maps.numbered_descriptors.Given as goal

-- with those that are left, all are there
abbrev pub invariant-loop-name : goal.invariant-loop-name
invariant-loop-name l = map descriptor_of l.numbered.items ++ numbered_descriptors l.descriptor (drop l.name-index l.names) ≡ numbered_descriptors (pos 0) l.fn.names
