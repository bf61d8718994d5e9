use Rattle.std.proofs.Common.{ap, ◌∙◌, Some}
use Rattle.capi_rows.specs.Variables.{CannotPatchAll}
use Rattle.capi_exports.specs.PassOrder.{CannotSet}
use Rattle.capi_exports.proofs.Handles.{refused_with}
use Rattle.capi_exports.proofs.map_settings.exact_ebpf_set_values.Goals as goal

pub returns-clause-refused : goal.returns-clause-refused
returns-clause-refused c =
    refused_with (CannotSet (CannotPatchAll c.args.rows.now c.args.text.now c.args.bytes.now)) c.set_held_values-answer.result _ _ c.deref_mut.result.now _ _ _ _ _
    (ap Some c.deref_mut.ensures.value ∙ c.in-Some.ensures.held) c.put.ensures c.set_held_values-answer.ensures.unchanged
    c.set_held_values-answer.ensures.why c.reported_number.ensures.number c.reported_number.ensures.told
