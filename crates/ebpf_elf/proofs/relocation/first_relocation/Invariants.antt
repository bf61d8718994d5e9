use Rattle.std.proofs.Common.{◌≡◌, length}
use Rattle.ebpf_elf.specs.Relocations.{entries_for}
use Rattle.ebpf_elf.proofs.relocation.first_relocation.Given as goal

abbrev pub invariant-loop-section : goal.invariant-loop-section
invariant-loop-section l = entries_for l.target l.sections ≡ entries_for l.target l.fn.sections

abbrev pub decreases-loop-section : goal.decreases-loop-section
decreases-loop-section l = length l.sections
