use Rattle.std.proofs.Common.{ap, ◌∙◌, Some}
use Rattle.capi_exports.specs.KernelPasses.{CannotPrepareHeldTo, given_inputs}
use Rattle.capi_exports.specs.PassOrder.{CannotPass}
use Rattle.capi_exports.specs.declared.held.Pass.TheVariants.{Types}
use Rattle.capi_exports.proofs.Handles.{refused_with}
use Rattle.capi_exports.proofs.kernel_preparing.prepare_handle_to.Goals as goal

pub returns-clause-refused : goal.returns-clause-refused
returns-clause-refused c =
    refused_with (CannotPass Types (CannotPrepareHeldTo c.args.kernel.now (given_inputs c.args.rows.now c.args.text.now c.args.symbols.now))) c.prepare_all_to-answer.result _ _ c.deref_mut.result.now _ _ _ _ _
    (ap Some c.deref_mut.ensures.value ∙ c.in-Some.ensures.held) c.put.ensures c.prepare_all_to-answer.ensures.unchanged
    c.prepare_all_to-answer.ensures.why c.reported_number.ensures.number c.reported_number.ensures.told
