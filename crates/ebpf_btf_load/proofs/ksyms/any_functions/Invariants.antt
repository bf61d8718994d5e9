use Rattle.std.proofs.Common.{◌≡◌}
use Rattle.std.specs.List.{list_any}
use Rattle.ebpf_btf_load.specs.KsymsSections.{takes_functions}
use Rattle.ebpf_btf_load.proofs.ksyms.any_functions.Given as goal

-- none of the types so far is one
abbrev pub invariant-loop-ty : goal.invariant-loop-ty
invariant-loop-ty l = list_any (takes_functions l.types) l.ty-iterator ≡ list_any (takes_functions l.types) l.types.types
