use Rattle.std.proofs.Common.{◌≡◌, ◌++◌, map}
use Rattle.ebpf_elf.specs.Relocations.{table_entries}
use Rattle.ebpf_sections.specs.Relocations.{offset_of}
use Rattle.ebpf_sections.proofs.relocations.gather_entries.Given as goal

-- what is left to do from here is what was to do from the start
abbrev pub invariant-loop-relocation : goal.invariant-loop-relocation
invariant-loop-relocation l = l.entries.items ++ map offset_of l.relocation-iterator ≡ l.fn.entries.items ++ map offset_of (table_entries l.table)
