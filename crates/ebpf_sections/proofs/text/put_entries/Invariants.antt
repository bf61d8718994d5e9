use Rattle.std.proofs.Common.{◌≡◌}
use Rattle.std.specs.Vec.Iter.{into_iter_items}
use Rattle.ebpf_base.specs.Maps.{put_all}
use Rattle.ebpf_sections.proofs.text.put_entries.Given as goal

-- what is left to do from here is what was to do from the start
abbrev pub invariant-loop-key : goal.invariant-loop-key
invariant-loop-key l = put_all l.functions (into_iter_items l.key-iterator) ≡ put_all l.fn.functions l.fn.entries.items
