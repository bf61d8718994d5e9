use Rattle.std.proofs.Common.{◌≡◌}
use Rattle.std.specs.Prelude.{option_map}
use Rattle.std.specs.List.{find}
use Rattle.ebpf_elf.specs.Symbols.{entry}
use Rattle.ebpf_struct_ops.specs.Variables.{names_variable, symbol_address}
use Rattle.ebpf_struct_ops.proofs.places.symbol_address.Given as goal

-- the symbols that are left have the address that all have
abbrev pub invariant-loop-symbol : goal.invariant-loop-symbol
invariant-loop-symbol l = option_map (λ s. (entry s).st_value) (find (names_variable l.section l.name) l.symbol-iterator) ≡ symbol_address l.file l.section l.name
