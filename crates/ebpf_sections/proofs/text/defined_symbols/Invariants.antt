use Rattle.std.proofs.Common.{◌≡◌, take, map, filter}
use Rattle.ebpf_sections.specs.Texts.{is_defined_text}
use Rattle.ebpf_sections.proofs.text.defined_symbols.Given as goal

-- the symbols so far
abbrev pub invariant-loop-symbol : goal.invariant-loop-symbol
invariant-loop-symbol l = map (λ y. y.now) l.rows.items ≡ filter is_defined_text (take l.symbol-index l.symbols)
