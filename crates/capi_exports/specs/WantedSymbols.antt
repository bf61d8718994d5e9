-- When the kernel's symbols are read.
use Rattle.std.specs.Prelude.{◌≡◌}
use Rattle.ebpf_ksyms.specs.Externs.{reads_lines}
use Rattle.ebpf_object.specs.declared.object.Object.{Object}
use Rattle.capi_rows.specs.WantedSymbols.{wants_symbols}

-- resolution reads lines of the symbols (`CountsLines`) exactly where an object wants them
abbrev pub SymbolsAreReadWhereWanted : Type 0
SymbolsAreReadWhereWanted = (o : Object) → reads_lines o.btf o.externs ≡ wants_symbols o
