use Rattle.std.proofs.Common.{◌≡◌, ◌++◌}
use Rattle.ebpf_struct_ops.specs.Variables.{bare_variables, bare_variables_fault}
use Rattle.ebpf_struct_ops.proofs.bare.bare_variables.Given as goal

-- with the variables of the entries that are left, all are there; they have the fault that all have
abbrev pub invariant-loop-entry : goal.invariant-loop-entry
invariant-loop-entry l = record {
  variables : l.all ++ bare_variables l.file l.types l.section l.entry-iterator ≡ bare_variables l.file l.types l.section l.entries;
  fault : bare_variables_fault l.file l.types l.section l.entry-iterator ≡ bare_variables_fault l.file l.types l.section l.entries;
}
