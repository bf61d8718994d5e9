use Rattle.std.proofs.Common.{◌≡◌, ◌+◌}
use Rattle.ebpf_elf.specs.Sections.{sections}
use Rattle.ebpf_limits.specs.OwnedBytes.{section_entry_bytes, total}
use Rattle.ebpf_limits.proofs.symbols.take_names.Given as goal

-- what is left and all names are what there was and the names that are left
abbrev pub invariant-loop-section : goal.invariant-loop-section
invariant-loop-section l =
    l.room.left + total (section_entry_bytes l.bytes) (sections l.file) ≡ l.fn.room.left + total (section_entry_bytes l.bytes) l.section-iterator
