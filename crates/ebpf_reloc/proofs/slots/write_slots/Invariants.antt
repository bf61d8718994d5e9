use Rattle.std.proofs.Common.{◌≡◌}
use Rattle.std.specs.FinMap.{entries}
use Rattle.ebpf_base.specs.Maps.{entries_from}
use Rattle.ebpf_reloc.specs.Passes.{rule_edit_of}
use Rattle.ebpf_reloc.specs.Relocated.{slots_after_relocations}
use Rattle.ebpf_reloc.proofs.slots.write_slots.Given as goal

-- the relocations that are left give, from now on, what all gave at the start
abbrev pub invariant-loop-offset : goal.invariant-loop-offset
invariant-loop-offset l = slots_after_relocations (rule_edit_of l.rule) l.start l.offset-iterator l.slots ≡ slots_after_relocations (rule_edit_of l.rule) l.start (entries_from l.start (entries l.section_relocations)) l.fn.slots
