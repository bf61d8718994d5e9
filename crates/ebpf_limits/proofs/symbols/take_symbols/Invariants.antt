use Rattle.std.proofs.Common.{◌≡◌, ◌+◌}
use Rattle.ebpf_elf.specs.Symbols.{symbols}
use Rattle.ebpf_limits.specs.OwnedBytes.{symbol_bytes, total}
use Rattle.ebpf_limits.proofs.symbols.take_symbols.Given as goal

-- what is left and all symbols are what there was and the symbols that are left
abbrev pub invariant-loop-symbol : goal.invariant-loop-symbol
invariant-loop-symbol l =
    l.room.left + total (symbol_bytes l.bytes l.license l.all) (symbols l.file) ≡ l.fn.room.left + total (symbol_bytes l.bytes l.license l.all) l.symbol-iterator
