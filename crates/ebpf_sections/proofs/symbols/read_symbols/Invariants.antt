use Rattle.std.proofs.Common.{◌≡◌, ◌++◌, ℕ, map}
use Rattle.ebpf_base.specs.Faults.{first_some}
use Rattle.ebpf_base.specs.Maps.{lent_bytes}
use Rattle.ebpf_sections.specs.Sections.{group_at}
use Rattle.ebpf_sections.specs.Symbols.{symbol_of, symbol_fault, symbols_fault, file_symbols, names_of, section_symbols}
use Rattle.ebpf_sections.proofs.symbols.read_symbols.Given as goal

-- what is left to do from here is what was to do from the start
abbrev pub invariant-loop-symbol : goal.invariant-loop-symbol
invariant-loop-symbol l = record {
  names : lent_bytes l.symbols.names.items ++ names_of (map symbol_of l.symbol-iterator) ≡ names_of (file_symbols l.file);
  groups : (q : ℕ) → group_at l.symbols.groups.groups q ++ section_symbols (map symbol_of l.symbol-iterator) q ≡ section_symbols (file_symbols l.file) q;
  fault : first_some symbol_fault l.symbol-iterator ≡ symbols_fault l.file;
}
