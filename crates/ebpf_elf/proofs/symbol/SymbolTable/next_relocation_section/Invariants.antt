use Rattle.std.proofs.Common.{◌≡◌}
use Rattle.ebpf_elf.specs.Relocations.{relocation_sections_from}
use Rattle.ebpf_elf.proofs.symbol.SymbolTable.next_relocation_section.Given as goal

abbrev pub invariant-loop-j : goal.invariant-loop-j
invariant-loop-j l =
    relocation_sections_from l.self.table.bytes.now l.self.index l.j l.self.table.count
    ≡ relocation_sections_from l.self.table.bytes.now l.self.index l.from l.self.table.count
