use Rattle.std.proofs.Common.{◌≡◌, ◌+◌}
use Rattle.ebpf_elf.specs.Relocations.{relocation_sections}
use Rattle.ebpf_limits.specs.OwnedBytes.{relocation_bytes, total}
use Rattle.ebpf_limits.proofs.limits.take_relocations.Given as goal

-- what is left and all sections of relocations are what there was and those that are left
abbrev pub invariant-loop-section : goal.invariant-loop-section
invariant-loop-section l =
    l.room.left + total (relocation_bytes l.all) (relocation_sections l.file) ≡ l.fn.room.left + total (relocation_bytes l.all) l.section-iterator
