use Rattle.std.proofs.Common.{◌≡◌, ◌++◌}
use Rattle.ebpf_btf_load.specs.KsymsSections.{ksyms_fault, externs_words}
use Rattle.ebpf_btf_load.specs.TypeSources.{given_of}
use Rattle.ebpf_btf_load.proofs.ksyms.externs_words.Given as goal

-- the words so far, and those of the entries that are left, are those of all
abbrev pub invariant-loop-row : goal.invariant-loop-row
invariant-loop-row l = record {
  words : l.words ++ externs_words (given_of l.sources) l.standins l.row-iterator ≡ externs_words (given_of l.sources) l.standins l.rows;
  fault : ksyms_fault (given_of l.sources) l.standins l.row-iterator ≡ ksyms_fault (given_of l.sources) l.standins l.rows;
}
