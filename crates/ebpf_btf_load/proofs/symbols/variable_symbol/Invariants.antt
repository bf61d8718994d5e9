use Rattle.std.proofs.Common.{◌≡◌}
use Rattle.std.specs.List.{find}
use Rattle.ebpf_btf_load.specs.TypeSources.{is_variable_symbol, variable_symbol}
use Rattle.ebpf_btf_load.proofs.symbols.variable_symbol.Given as goal

-- none of the symbols so far is it
abbrev pub invariant-loop-symbol : goal.invariant-loop-symbol
invariant-loop-symbol l =
    find (λ s. is_variable_symbol l.table l.strings l.name_offset s) l.symbol-iterator
    ≡ variable_symbol l.file l.table l.strings l.name_offset
