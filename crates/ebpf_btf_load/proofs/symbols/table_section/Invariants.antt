use Rattle.std.proofs.Common.{◌≡◌}
use Rattle.std.specs.List.{find}
use Rattle.ebpf_elf.specs.Sections.{sections}
use Rattle.ebpf_btf_load.specs.TypeSources.{is_symbol_table}
use Rattle.ebpf_btf_load.proofs.symbols.table_section.Given as goal

-- none of the sections so far is one
abbrev pub invariant-loop-section : goal.invariant-loop-section
invariant-loop-section l = find (λ s. is_symbol_table s) l.section-iterator ≡ find (λ s. is_symbol_table s) (sections l.file)
