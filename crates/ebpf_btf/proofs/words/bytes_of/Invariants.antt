use Rattle.std.proofs.Common.{◌≡◌, take}
use Rattle.ebpf_btf.specs.Words.{words_bytes}
use Rattle.ebpf_btf.proofs.words.bytes_of.Given as goal

abbrev pub invariant-loop-word : goal.invariant-loop-word
invariant-loop-word l = l.out.items ≡ words_bytes l.order (take l.word-index l.words)
