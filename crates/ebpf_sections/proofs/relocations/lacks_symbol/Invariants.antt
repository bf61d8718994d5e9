use Rattle.std.proofs.Common.{◌≡◌}
use Rattle.ebpf_elf.specs.Relocations.{table_entries}
use Rattle.ebpf_sections.specs.Relocations.{lacks_symbol}
use Rattle.ebpf_sections.proofs.relocations.lacks_symbol.Given as goal

-- what is left to do from here is what was to do from the start
abbrev pub invariant-loop-relocation : goal.invariant-loop-relocation
invariant-loop-relocation l = lacks_symbol l.relocation-iterator ≡ lacks_symbol (table_entries l.section)
