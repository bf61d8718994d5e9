use Rattle.std.proofs.Common.{◌≡◌, ◌++◌}
use Rattle.ebpf_elf.specs.Symbols.{symbols}
use Rattle.ebpf_btf_load.specs.KsymsSections.{hidden_words_in}
use Rattle.ebpf_btf_load.specs.TypeSources.{given_of}
use Rattle.ebpf_btf_load.proofs.symbols.hidden_words_in.Given as goal

-- the words so far, and those of the symbols that are left, are those of all
abbrev pub invariant-loop-symbol : goal.invariant-loop-symbol
invariant-loop-symbol l =
    l.words ++ hidden_words_in (given_of l.sources) l.text l.symbol-iterator
    ≡ hidden_words_in (given_of l.sources) l.text (symbols (given_of l.sources).file)
