use Rattle.std.proofs.Common.{ap, ◌∙◌, Some}
use Rattle.capi_exports.specs.PassOrder.{CannotPass}
use Rattle.capi_exports.specs.Passes.{CannotLink}
use Rattle.capi_exports.specs.declared.held.Pass.TheVariants.{Calls}
use Rattle.capi_exports.proofs.Handles.{refused_with}
use Rattle.capi_exports.proofs.linking.exact_ebpf_relocate_calls.Goals as goal

pub returns-clause-refused : goal.returns-clause-refused
returns-clause-refused c =
    refused_with (CannotPass Calls CannotLink) c.pass_calls-answer.result _ _ c.deref_mut.result.now _ _ _ _ _
    (ap Some c.deref_mut.ensures.value ∙ c.in-Some.ensures.held) c.put.ensures c.pass_calls-answer.ensures.unchanged
    c.pass_calls-answer.ensures.why c.reported_number.ensures.number c.reported_number.ensures.told
