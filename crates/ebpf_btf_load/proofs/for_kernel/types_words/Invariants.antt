use Rattle.std.proofs.Common.{◌≡◌, ◌+◌, ◌++◌, ◌≤◌, ◌^◌, length}
use Rattle.ebpf_btf_load.specs.TypeSources.{given_of}
use Rattle.ebpf_btf_load.specs.KernelTypes.{type_words_fault, types_words}
use Rattle.ebpf_btf_load.proofs.for_kernel.types_words.Given as goal

-- the words so far, and those of the types that are left, are those of all
abbrev pub invariant-loop-ty : goal.invariant-loop-ty
invariant-loop-ty l = record {
  few : l.id + length l.ty-iterator ≤ 2 ^ 32;
  words : l.words ++ types_words (given_of l.sources) l.standins l.id l.ty-iterator ≡ types_words (given_of l.sources) l.standins 0 (given_of l.sources).types.types;
  fault : type_words_fault (given_of l.sources) l.standins l.id l.ty-iterator ≡ type_words_fault (given_of l.sources) l.standins 0 (given_of l.sources).types.types;
}
