use Rattle.std.proofs.Common.{◌≡◌}
use Rattle.std.specs.List.{list_any}
use Rattle.ebpf_btf_load.specs.KsymsSections.{takes_variables}
use Rattle.ebpf_btf_load.proofs.ksyms.any_variables.Given as goal

-- none of the types so far is one
abbrev pub invariant-loop-ty : goal.invariant-loop-ty
invariant-loop-ty l = list_any (takes_variables l.types) l.ty-iterator ≡ list_any (takes_variables l.types) l.types.types
