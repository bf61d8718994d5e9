use Rattle.std.proofs.Common.{ap, ◌∙◌, Some}
use Rattle.capi_exports.specs.KernelPasses.{CannotResolveIn}
use Rattle.capi_exports.specs.PassOrder.{CannotPass}
use Rattle.capi_exports.specs.declared.held.Pass.TheVariants.{Resolution}
use Rattle.capi_exports.proofs.Handles.{refused_with}
use Rattle.capi_exports.proofs.kernel_calls.resolve_held_in.Goals as goal

pub returns-clause-refused : goal.returns-clause-refused
returns-clause-refused c =
    refused_with (CannotPass Resolution (CannotResolveIn c.args.kernel.now c.args.symbols.now)) c.pass_resolution_in-answer.result _ _ c.deref_mut.result.now _ _ _ _ _
    (ap Some c.deref_mut.ensures.value ∙ c.in-Some.ensures.held) c.put.ensures c.pass_resolution_in-answer.ensures.unchanged
    c.pass_resolution_in-answer.ensures.why c.reported_number.ensures.number c.reported_number.ensures.told
