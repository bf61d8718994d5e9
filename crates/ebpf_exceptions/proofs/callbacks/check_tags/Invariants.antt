use Rattle.std.proofs.Common.{◌≡◌, drop}
use Rattle.ebpf_base.specs.Faults.{first_some}
use Rattle.ebpf_exceptions.specs.Callbacks.{tag_fault}
use Rattle.ebpf_exceptions.proofs.callbacks.check_tags.Given as goal

-- the tags that are left have the fault that all have
abbrev pub invariant-loop-tag : goal.invariant-loop-tag
invariant-loop-tag l = first_some (tag_fault l.programs l.functions) (drop l.tag-index l.tags) ≡ first_some (tag_fault l.programs l.functions) l.tags
