use Rattle.std.proofs.Common.{◌≡◌, map}
use Rattle.std.specs.Iterator.Adapters.{zip_first, zip_second}
use Rattle.std.specs.Slice.Iter.{iter_rest}
use Rattle.ebpf_base.specs.Maps.{put_all, lent_bytes}
use Rattle.ebpf_sections.specs.Symbols.{symbol_of, file_symbols, symbol_entry, symbol_table, names_of}
use Rattle.ebpf_sections.proofs.symbols.object_symbols.Given as goal

-- what is left to do from here is what was to do from the start, and the names that are left are those of the symbols
abbrev pub invariant-loop-symbol : goal.invariant-loop-symbol
invariant-loop-symbol l = record {
  table : put_all l.table (map symbol_entry (map symbol_of (zip_first l.symbol-iterator))) ≡ symbol_table (file_symbols l.file);
  names : lent_bytes (iter_rest (zip_second l.symbol-iterator)) ≡ names_of (map symbol_of (zip_first l.symbol-iterator));
}
