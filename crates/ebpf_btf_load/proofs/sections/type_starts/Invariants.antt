use Rattle.std.proofs.Common.{◌≡◌, ◌++◌}
use Rattle.ebpf_btf_load.specs.TypeSources.{type_starts}
use Rattle.ebpf_btf_load.proofs.sections.type_starts.Given as goal

-- the starts so far, and those of the types that are left, are those of all
abbrev pub invariant-loop-ty : goal.invariant-loop-ty
invariant-loop-ty l = l.starts ++ type_starts l.order l.part l.offset l.ty-iterator ≡ type_starts l.order l.part 0 l.types.types
