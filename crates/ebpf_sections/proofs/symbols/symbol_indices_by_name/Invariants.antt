use Rattle.std.proofs.Common.{◌≡◌, drop, map}
use Rattle.ebpf_base.specs.Maps.{put_all}
use Rattle.ebpf_sections.specs.Symbols.{name_and_index, symbol_indices_by_name}
use Rattle.ebpf_sections.proofs.symbols.symbol_indices_by_name.Given as goal

-- what is left to do from here is what was to do from the start
abbrev pub invariant-loop-symbol : goal.invariant-loop-symbol
invariant-loop-symbol l = put_all l.numbers (map name_and_index (drop l.symbol-index l.symbols)) ≡ symbol_indices_by_name l.fn.symbols
