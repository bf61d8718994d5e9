use Rattle.std.proofs.Common.{rules, subst}
use Rattle.ebpf_base.specs.Faults.{Refuses}
use Rattle.ebpf_struct_ops.specs.KernelStructs.{is_struct_ops_memory}
use Rattle.ebpf_struct_ops.proofs.SectionFaults.{variables_are_left}
use Rattle.ebpf_struct_ops.proofs.variables.with_types.Goals as goal

pub returns-clause-fault : goal.returns-clause-fault
returns-clause-fault c =
    subst (λ o. Refuses is_struct_ops_memory c.variables_of.result o)
    (variables_are_left c.args.file.now c.args.object.now c.args.types.now c.args.section.now c.in-Ok.bytes.now c.index-index.result.0 c.in-Some.ty c.relocations.result (search rules) (search rules) (search rules) (search rules) (search rules))
    c.variables_of.ensures.fault
