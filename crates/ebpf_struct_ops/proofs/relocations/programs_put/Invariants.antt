use Rattle.std.proofs.Common.{◌≡◌}
use Rattle.std.specs.Prelude.{fold}
use Rattle.ebpf_struct_ops.specs.Relocations.{programs_put, relocations_fault, with_program_at}
use Rattle.ebpf_struct_ops.proofs.relocations.programs_put.Given as goal

-- with what the relocations that are left put, all is there; they have the fault that all have
abbrev pub invariant-loop-relocation : goal.invariant-loop-relocation
invariant-loop-relocation l = record {
  programs : fold (with_program_at l.object) l.found l.relocation-iterator ≡ programs_put l.object l.fn.relocations;
  fault : relocations_fault l.file l.object l.types l.variables l.relocation-iterator ≡ relocations_fault l.file l.object l.types l.variables l.fn.relocations;
}
