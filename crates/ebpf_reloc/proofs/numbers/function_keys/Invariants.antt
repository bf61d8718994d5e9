use Rattle.std.proofs.Common.{◌≡◌, ◌++◌}
use Rattle.std.specs.Map.{keys_of}
use Rattle.ebpf_reloc.specs.Numbers.{function_keys}
use Rattle.ebpf_reloc.proofs.numbers.function_keys.Given as goal

-- the keys so far, and those of what is left
abbrev pub invariant-loop-key : goal.invariant-loop-key
invariant-loop-key l = l.keys.items ++ keys_of l.key-iterator ≡ function_keys l.functions
