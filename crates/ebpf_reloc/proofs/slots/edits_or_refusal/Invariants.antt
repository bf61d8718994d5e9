use Rattle.std.proofs.Common.{◌≡◌, ◌+◌, ◌*◌, length, None, false}
use Rattle.std.specs.Prelude.{unwrap_or}
use Rattle.std.specs.FinMap.{empty, entries}
use Rattle.ebpf_base.specs.Maps.{entries_from}
use Rattle.ebpf_model.specs.Walks.{walked_relocations, left_in, IsBefore}
use Rattle.ebpf_reloc.specs.Passes.{rule_edit_of}
use Rattle.ebpf_reloc.specs.Relocated.{scan, slots_after_relocations}
use Rattle.ebpf_reloc.proofs.slots.edits_or_refusal.Given as goal

-- what is left to try gives what all gave at the start, and makes of the slots what all make as long as none edits; the
-- walk has not passed the end of the function
abbrev pub invariant-loop-offset : goal.invariant-loop-offset
invariant-loop-offset l = record {
  scan : scan (rule_edit_of l.rule) l.start l.slots l.pending (left_in l.walk) ≡ scan (rule_edit_of l.rule) l.start l.function.instructions None (entries_from l.start (entries (unwrap_or (walked_relocations l.fn.walk) empty)));
  none : l.edits ≡ false → l.pending ≡ None;
  stays : l.edits ≡ false → slots_after_relocations (rule_edit_of l.rule) l.start (left_in l.walk) l.slots ≡ slots_after_relocations (rule_edit_of l.rule) l.start (entries_from l.start (entries (unwrap_or (walked_relocations l.fn.walk) empty))) l.function.instructions;
  others : l.walk ≡ record l.fn.walk { next = l.walk.next; ahead = l.walk.ahead };
  before : IsBefore l.walk (l.function.section_offset + 8 * length l.function.instructions);
}

abbrev pub decreases-loop-offset : goal.decreases-loop-offset
decreases-loop-offset l = length (left_in l.walk)
