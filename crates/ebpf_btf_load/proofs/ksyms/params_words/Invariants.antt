use Rattle.std.proofs.Common.{◌≡◌, ◌+◌, ◌*◌, ◌++◌, ◌≤◌, length}
use Rattle.ebpf_btf_load.specs.KsymsSections.{params_words}
use Rattle.ebpf_btf_load.proofs.ksyms.params_words.Given as goal

-- the words so far, and those of the parameters that are left, are those of all
abbrev pub invariant-loop-param : goal.invariant-loop-param
invariant-loop-param l = record {
  near : l.offset + 8 * length l.param-iterator ≤ l.start + 8 * length l.params;
  words : l.words ++ params_words l.name_offset l.offset l.param-iterator ≡ params_words l.name_offset l.start l.params;
}
