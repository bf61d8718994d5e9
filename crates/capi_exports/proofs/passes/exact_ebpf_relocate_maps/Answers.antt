use Rattle.std.proofs.Common.{ap, ◌∙◌, Some}
use Rattle.capi_rows.specs.Descriptors.{CannotWriteMapFds}
use Rattle.capi_exports.specs.PassOrder.{CannotPass}
use Rattle.capi_exports.specs.declared.held.Pass.TheVariants.{Maps}
use Rattle.capi_exports.proofs.Handles.{refused_with}
use Rattle.capi_exports.proofs.passes.exact_ebpf_relocate_maps.Goals as goal

pub returns-clause-refused : goal.returns-clause-refused
returns-clause-refused c =
    refused_with (CannotPass Maps (CannotWriteMapFds c.args.rows.now c.args.text.now)) c.pass_maps-answer.result _ _ c.deref_mut.result.now _ _ _ _ _
    (ap Some c.deref_mut.ensures.value ∙ c.in-Some.ensures.held) c.put.ensures c.pass_maps-answer.ensures.unchanged
    c.pass_maps-answer.ensures.why c.reported_number.ensures.number c.reported_number.ensures.told
