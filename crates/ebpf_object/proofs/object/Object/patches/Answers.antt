use Rattle.std.proofs.Common.{subst, ap, ◌∙◌}
use Rattle.std.specs.FinMap.{get}
use Rattle.ebpf_base.specs.Faults.{Refuses, first_some}
use Rattle.ebpf_base.specs.Maps.{lent_bytes}
use Rattle.ebpf_object.specs.Patches.{patch_fault_at, globals_of}
use Rattle.ebpf_parts.specs.Memory.{is_parse_memory}
use Rattle.ebpf_object.proofs.object.Object.patches.Goals as goal

pub returns-clause-fault : goal.returns-clause-fault
returns-clause-fault c =
    subst (λ ks. Refuses is_parse_memory c.add_all.result (first_some (λ name. patch_fault_at c.args.self.now.symbol_table c.args.self.now.maps name (get (globals_of c.args.globals.now.entries) name)) ks))
    (ap lent_bytes c.as_slice.ensures.value ∙ c.in-Ok.ensures)
    c.add_all.ensures.fault
