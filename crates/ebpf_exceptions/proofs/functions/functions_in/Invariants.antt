use Rattle.std.proofs.Common.{◌≡◌}
use Rattle.std.specs.Prelude.{fold}
use Rattle.ebpf_exceptions.specs.Callbacks.{functions_in, with_symbol}
use Rattle.ebpf_exceptions.proofs.functions.functions_in.Given as goal

-- with the functions of the symbols that are left, all are there
abbrev pub invariant-loop-symbol : goal.invariant-loop-symbol
invariant-loop-symbol l = fold (with_symbol l.table l.text) l.found l.symbol-iterator ≡ functions_in l.file l.text
