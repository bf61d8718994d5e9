use Rattle.std.proofs.Common.{◌≡◌, ◌++◌, map}
use Rattle.ebpf_reloc.specs.Numbers.{function_list}
use Rattle.ebpf_reloc.proofs.numbers.function_list.Given as goal

-- the functions so far, and those that are left
abbrev pub invariant-loop-function : goal.invariant-loop-function
invariant-loop-function l = map (λ f. f.now) l.list.items ++ map (λ e. e.1) l.function-iterator ≡ function_list l.functions
