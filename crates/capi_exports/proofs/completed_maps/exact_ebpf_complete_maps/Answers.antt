use Rattle.std.proofs.Common.{ap, ◌∙◌, Some}
use Rattle.capi_rows.specs.BtfMaps.{CannotComplete}
use Rattle.capi_exports.specs.PassOrder.{CannotSet}
use Rattle.capi_exports.proofs.Handles.{refused_with}
use Rattle.capi_exports.proofs.completed_maps.exact_ebpf_complete_maps.Goals as goal

pub returns-clause-refused : goal.returns-clause-refused
returns-clause-refused c =
    refused_with (CannotSet (CannotComplete c.args.file.now c.args.page_size)) c.complete_held-answer.result _ _ c.deref_mut.result.now _ _ _ _ _
    (ap Some c.deref_mut.ensures.value ∙ c.in-Some.ensures.held) c.put.ensures c.complete_held-answer.ensures.unchanged
    c.complete_held-answer.ensures.why c.reported_number.ensures.number c.reported_number.ensures.told
