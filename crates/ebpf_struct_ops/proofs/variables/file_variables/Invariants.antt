use Rattle.std.proofs.Common.{◌≡◌, ◌++◌}
use Rattle.ebpf_elf.specs.Sections.{sections}
use Rattle.ebpf_struct_ops.specs.ObjectVariables.{variables_in, variables_in_fault}
use Rattle.ebpf_struct_ops.proofs.variables.file_variables.Given as goal

-- with the variables of the sections that are left, all are there; they have the fault that all have
abbrev pub invariant-loop-section : goal.invariant-loop-section
invariant-loop-section l = record {
  variables : l.all ++ variables_in l.file l.object l.section-iterator ≡ variables_in l.file l.object (sections l.file);
  fault : variables_in_fault l.file l.object l.section-iterator ≡ variables_in_fault l.file l.object (sections l.file);
}
