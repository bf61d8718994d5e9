use Rattle.std.proofs.Common.{ap, ◌∙◌, Some}
use Rattle.capi_exports.specs.LeavingOut.{CannotLeaveOut}
use Rattle.capi_exports.specs.PassOrder.{CannotSet}
use Rattle.capi_exports.proofs.Handles.{refused_with}
use Rattle.capi_exports.proofs.leaving_out.exact_ebpf_leave_out.Goals as goal

pub returns-clause-refused : goal.returns-clause-refused
returns-clause-refused c =
    refused_with (CannotSet (CannotLeaveOut c.args.rows.now c.args.text.now)) c.leave_out_held-answer.result _ _ c.deref_mut.result.now _ _ _ _ _
    (ap Some c.deref_mut.ensures.value ∙ c.in-Some.ensures.held) c.put.ensures c.leave_out_held-answer.ensures.unchanged
    c.leave_out_held-answer.ensures.why c.reported_number.ensures.number c.reported_number.ensures.told
