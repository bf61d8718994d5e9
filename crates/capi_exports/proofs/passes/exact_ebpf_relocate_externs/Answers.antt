use Rattle.std.proofs.Common.{ap, ◌∙◌, Some}
use Rattle.capi_exports.specs.Passes.{CannotWriteExterns}
use Rattle.capi_exports.specs.PassOrder.{CannotPass}
use Rattle.capi_exports.specs.declared.held.Pass.TheVariants.{Externs}
use Rattle.capi_exports.proofs.Handles.{refused_with}
use Rattle.capi_exports.proofs.passes.exact_ebpf_relocate_externs.Goals as goal

pub returns-clause-refused : goal.returns-clause-refused
returns-clause-refused c =
    refused_with (CannotPass Externs CannotWriteExterns) c.pass_externs-answer.result _ _ c.deref_mut.result.now _ _ _ _ _
    (ap Some c.deref_mut.ensures.value ∙ c.in-Some.ensures.held) c.put.ensures c.pass_externs-answer.ensures.unchanged
    c.pass_externs-answer.ensures.why c.reported_number.ensures.number c.reported_number.ensures.told
