use Rattle.std.proofs.Common.{◌≡◌, drop, map}
use Rattle.std.specs.FinMap.{empty}
use Rattle.ebpf_base.specs.Maps.{put_all}
use Rattle.ebpf_object.specs.Stages.{descriptor_of}
use Rattle.ebpf_object.proofs.missing.by_name.Given as goal

-- those so far, with those that are left put over them
abbrev pub invariant-loop-name : goal.invariant-loop-name
invariant-loop-name l = put_all l.named (map descriptor_of (drop l.name-index l.descriptors)) ≡ put_all empty (map descriptor_of l.fn.descriptors)
