use Rattle.std.proofs.Common.{◌≡◌, ◌++◌}
use Rattle.ebpf_exceptions.specs.Callbacks.{tags, tags_fault}
use Rattle.ebpf_exceptions.proofs.tags.tags.Given as goal

-- with the tags among the types that are left, all are there; they have the fault that all have
abbrev pub invariant-loop-ty : goal.invariant-loop-ty
invariant-loop-ty l = record {
  tags : l.all ++ tags l.types l.ty-iterator ≡ tags l.types l.types.types;
  fault : tags_fault l.types l.ty-iterator ≡ tags_fault l.types l.types.types;
}
