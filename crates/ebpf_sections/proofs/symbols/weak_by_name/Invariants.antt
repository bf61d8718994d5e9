use Rattle.std.proofs.Common.{◌≡◌, ℕ, List, map}
use Rattle.std.specs.FinMap.{get}
use Rattle.ebpf_base.specs.Faults.{first_some, or_else}
use Rattle.ebpf_sections.specs.Symbols.{symbol_of, symbol_fault, symbols_fault, file_symbols, weak_named}
use Rattle.ebpf_sections.proofs.symbols.weak_by_name.Given as goal

-- what is left to do from here is what was to do from the start
abbrev pub invariant-loop-symbol : goal.invariant-loop-symbol
invariant-loop-symbol l = record {
  weak : (q : List ℕ) → or_else (get l.weak q) (weak_named (map symbol_of l.symbol-iterator) q) ≡ weak_named (file_symbols l.file) q;
  fault : first_some symbol_fault l.symbol-iterator ≡ symbols_fault l.file;
}
