use Rattle.std.proofs.Common.{◌≡◌, drop}
use Rattle.std.specs.Prelude.{fold}
use Rattle.ebpf_exceptions.specs.Callbacks.{first_tags, with_tag}
use Rattle.ebpf_exceptions.proofs.tags.first_tags.Given as goal

-- with the tags that are left, all are there
abbrev pub invariant-loop-tag : goal.invariant-loop-tag
invariant-loop-tag l = fold with_tag l.found (drop l.tag-index l.tags) ≡ first_tags l.tags
