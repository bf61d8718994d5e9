use Rattle.std.proofs.Common.{◌≡◌, ◌++◌, drop}
use Rattle.std.specs.List.{flat_map}
use Rattle.ebpf_btf.specs.Words.{word_bytes}
use Rattle.ebpf_btf_load.proofs.ksyms.append_words.Given as goal

-- the bytes so far, and those of the words that are left, are those of all
abbrev pub invariant-loop-word : goal.invariant-loop-word
invariant-loop-word l = l.out.items ++ flat_map (word_bytes l.order) (drop l.word-index l.words) ≡ l.fn.out.items ++ flat_map (word_bytes l.order) l.words
