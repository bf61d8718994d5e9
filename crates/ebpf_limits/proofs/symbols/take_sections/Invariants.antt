use Rattle.std.proofs.Common.{◌≡◌, ◌+◌, ◌++◌, map}
use Rattle.ebpf_elf.specs.Sections.{sections}
use Rattle.ebpf_limits.specs.OwnedBytes.{contents_bytes, facts_of, total}
use Rattle.ebpf_limits.proofs.symbols.take_sections.Given as goal

-- what is left and all sections are what there was and the sections that are left
abbrev pub invariant-loop-section : goal.invariant-loop-section
invariant-loop-section l = record {
  taken : l.room.left + total (contents_bytes l.bytes l.records) (sections l.file) ≡ l.fn.room.left + total (contents_bytes l.bytes l.records) l.section-iterator;
  facts : l.all.items ++ map (facts_of l.records) l.section-iterator ≡ map (facts_of l.records) (sections l.file);
}
