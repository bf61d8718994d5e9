use Rattle.std.proofs.Common.{map, subst}
use Rattle.std.specs.Prelude.{◌≡◌, Some, IfErr}
use Rattle.std.specs.FinMap.{FinMap}
use Rattle.ebpf_base.specs.Maps.{text_cmp}
use Rattle.ebpf_object.specs.Prepared.{RefusesPreparing}
use Rattle.ebpf_object.specs.Stages.{Wrapped, own_maps, descriptor_of}
use Rattle.ebpf_object.specs.Names.{has_function_in}
use Rattle.ebpf_object.specs.WrittenSlots.{maps_fault}
use Rattle.ebpf_object.specs.declared.prepare_error.PrepareError.TheVariants.{Maps}
use Rattle.ebpf_parts.specs.declared.maps.either.Map.{Map}
use Rattle.ebpf_object.proofs.own_maps.relocate_own_maps.Goals as goal

pub returns-clause-fault : goal.returns-clause-fault
returns-clause-fault c =
    subst (λ (ms : FinMap text_cmp Map). IfErr c.relocate_some-answer.result (RefusesPreparing (Wrapped Maps (λ e. maps_fault c.args.object.now (has_function_in c.args.object.now.functions) (own_maps ms (map descriptor_of c.args.descriptors.now)) ≡ Some e))))
    c.replace-maps.ensures.value c.relocate_some-answer.ensures.fault
