use Rattle.std.proofs.Common.{ap, ◌∙◌, Some}
use Rattle.capi_exports.specs.KernelPasses.{CannotRelocateTo}
use Rattle.capi_exports.specs.PassOrder.{CannotPass}
use Rattle.capi_exports.specs.declared.held.Pass.TheVariants.{Types}
use Rattle.capi_exports.proofs.Handles.{refused_with}
use Rattle.capi_exports.proofs.kernel_calls.relocate_held_to.Goals as goal

pub returns-clause-refused : goal.returns-clause-refused
returns-clause-refused c =
    refused_with (CannotPass Types (CannotRelocateTo c.args.target.now)) c.pass_types_to-answer.result _ _ c.deref_mut.result.now _ _ _ _ _
    (ap Some c.deref_mut.ensures.value ∙ c.in-Some.ensures.held) c.put.ensures c.pass_types_to-answer.ensures.unchanged
    c.pass_types_to-answer.ensures.why c.reported_number.ensures.number c.reported_number.ensures.told
