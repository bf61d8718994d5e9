use Rattle.std.proofs.Common.{rules, subst}
use Rattle.ebpf_base.specs.Faults.{Refuses}
use Rattle.ebpf_struct_ops.specs.KernelStructs.{is_struct_ops_memory}
use Rattle.ebpf_struct_ops.proofs.SectionFaults.{relocations_are_left}
use Rattle.ebpf_struct_ops.proofs.variables.variables_of.Goals as goal

pub returns-in_err-found-clause-fault : goal.returns-in_err-found-clause-fault
returns-in_err-found-clause-fault c =
    subst (λ o. Refuses is_struct_ops_memory c.from_residual-in_err-found.result o)
    (relocations_are_left c.args.file.now c.args.object.now c.args.source.types.now c.args.source.bytes.now c.args.source.index c.args.ty.now c.args.relocations c.as_slice-variables.result.now (search rules) (search rules))
    (search rules)
