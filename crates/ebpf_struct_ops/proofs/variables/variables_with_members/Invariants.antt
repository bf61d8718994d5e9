use Rattle.std.proofs.Common.{◌≡◌, ◌++◌, drop}
use Rattle.ebpf_struct_ops.specs.ObjectVariables.{variables_with_members}
use Rattle.ebpf_struct_ops.proofs.variables.variables_with_members.Given as goal

-- with the variables that are left, all are there
abbrev pub invariant-loop-variable : goal.invariant-loop-variable
invariant-loop-variable l =
    l.all ++ variables_with_members l.source.types.now l.source.bytes.now l.source.index l.source.rule l.found (drop l.variable-index l.bare)
    ≡ variables_with_members l.source.types.now l.source.bytes.now l.source.index l.source.rule l.found l.bare
