use Rattle.std.proofs.Common.{◌≡◌, ◌++◌, drop, map}
use Rattle.ebpf_object.specs.Stages.{descriptor_of, unknown_maps}
use Rattle.ebpf_object.proofs.object.Object.unknown_maps.Given as goal

-- the names so far, and those without a map of the rest
abbrev pub invariant-loop-name : goal.invariant-loop-name
invariant-loop-name l = l.unknown ++ unknown_maps l.self (map descriptor_of (drop l.name-index l.descriptors)) ≡ unknown_maps l.fn.self (map descriptor_of l.fn.descriptors)
