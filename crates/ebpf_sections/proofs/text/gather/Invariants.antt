use Rattle.std.proofs.Common.{◌-◌, length}
use Rattle.ebpf_sections.proofs.Tiles.{IsWalked}
use Rattle.ebpf_sections.proofs.text.gather.Given as goal

-- what is gathered, then what is left from here, is what there was from the start
abbrev pub invariant-loop-offset : goal.invariant-loop-offset
invariant-loop-offset l = IsWalked l.records l.section l.symbols.symbols.now l.entries.items l.offset

abbrev pub decreases-loop-offset : goal.decreases-loop-offset
decreases-loop-offset l = length l.section.bytes - l.offset
