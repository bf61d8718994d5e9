use Rattle.std.proofs.Common.{ap, ◌∙◌, Some}
use Rattle.std.specs.Prelude.{not, ◌==◌}
use Rattle.capi_exports.specs.Settings.{CannotPatch}
use Rattle.capi_exports.specs.PassOrder.{CannotSet}
use Rattle.capi_exports.proofs.Handles.{refused_with}
use Rattle.capi_exports.proofs.variable_calls.exact_ebpf_set_value.Goals as goal

pub returns-clause-refused : goal.returns-clause-refused
returns-clause-refused c =
    refused_with (CannotSet (CannotPatch c.args.name.now c.args.value.now (not (c.args.must_exist == 0)))) c.set_held_value-answer.result _ _ c.deref_mut.result.now _ _ _ _ _
    (ap Some c.deref_mut.ensures.value ∙ c.in-Some.ensures.held) c.put.ensures c.set_held_value-answer.ensures.unchanged
    c.set_held_value-answer.ensures.why c.reported_number.ensures.number c.reported_number.ensures.told
