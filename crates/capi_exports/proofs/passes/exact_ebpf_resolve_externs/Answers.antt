use Rattle.std.proofs.Common.{ap, ◌∙◌, Some}
use Rattle.capi_exports.specs.Passes.{CannotResolve}
use Rattle.capi_exports.specs.PassOrder.{CannotPass}
use Rattle.capi_exports.specs.declared.held.Pass.TheVariants.{Resolution}
use Rattle.capi_exports.proofs.Handles.{refused_with}
use Rattle.capi_exports.proofs.passes.exact_ebpf_resolve_externs.Goals as goal

pub returns-clause-refused : goal.returns-clause-refused
returns-clause-refused c =
    refused_with (CannotPass Resolution (CannotResolve c.args.types.now c.args.symbols.now)) c.pass_resolution-answer.result _ _ c.deref_mut.result.now _ _ _ _ _
    (ap Some c.deref_mut.ensures.value ∙ c.in-Some.ensures.held) c.put.ensures c.pass_resolution-answer.ensures.unchanged
    c.pass_resolution-answer.ensures.why c.reported_number.ensures.number c.reported_number.ensures.told
