use Rattle.std.proofs.Common.{rules, ◌≡◌, map, true, Some, ◌∙◌}
use Rattle.ebpf_object.specs.Stages.{chosen, descriptor_of}
use Rattle.capi_rows.specs.Descriptors.{descriptors_in, have_names}
use Rattle.capi_exports.specs.KernelPasses.{given_inputs}
use Rattle.capi_exports.specs.Passes.{all_passes}
use Rattle.capi_exports.proofs.HeldObjects.{held_to}
use Rattle.capi_exports.proofs.kernel_preparing.prepare_object_to.Goals as goal

pub returns-in-Ok-clause-ok : goal.returns-in-Ok-clause-ok
returns-in-Ok-clause-ok c =
    let kernel = c.args.kernel.now in
    let inputs = given_inputs c.args.rows.now c.args.text.now c.args.symbols.now in
    let named : have_names c.args.text.now c.args.rows.now ≡ true = search rules in
    let given : map descriptor_of c.deref.result.now ≡ descriptors_in c.args.text.now c.args.rows.now = search rules in
    let all : chosen c.all_with-steps.result ≡ all_passes inputs (Some kernel) =
    c.all_with-steps.ensures ∙ (λ i. record { target = Some kernel; descriptors = Some (given i); kernel = Some (Some kernel); externs = true; calls = true; complete = true }) in
    held_to kernel inputs (chosen c.all_with-steps.result) c.args.object.now c.prepare_in_place.new.object named all
    c.in-Ok.ensures.stages c.in-Ok.ensures.headline c.in-Ok.ensures.others_stay
