use Rattle.std.proofs.Common.{rules, ◌≡◌, map, true, Some, ◌∙◌}
use Rattle.std.specs.Option.{option_copied}
use Rattle.ebpf_object.specs.Stages.{chosen, descriptor_of}
use Rattle.capi_rows.specs.Descriptors.{descriptors_in, have_names}
use Rattle.capi_exports.specs.Passes.{all_passes, inputs_of}
use Rattle.capi_exports.proofs.Handles.{held}
use Rattle.capi_exports.proofs.preparing.prepare_held.Goals as goal

pub returns-in-Ok-clause-ok : goal.returns-in-Ok-clause-ok
returns-in-Ok-clause-ok c =
    let inputs = inputs_of c.args.types.now c.args.rows.now c.args.text.now c.args.symbols.now in
    let named : have_names c.args.text.now c.args.rows.now ≡ true = search rules in
    let kernel : option_copied c.as_ref.result ≡ c.in_ok-kernel.kernel = search rules in
    let given : map descriptor_of c.deref.result.now ≡ descriptors_in c.args.text.now c.args.rows.now = search rules in
    let all : chosen c.all_with-steps.result ≡ all_passes inputs c.in_ok-kernel.kernel =
    c.all_with-steps.ensures ∙ (λ i. record { target = kernel i; descriptors = Some (given i); kernel = Some (kernel i); externs = true; calls = true; complete = true }) in
    held inputs c.in_ok-kernel.kernel (chosen c.all_with-steps.result) c.args.object.now c.prepare_in_place.new.object c.in_ok-kernel.ensures.types named all
    c.in-Ok.ensures.stages c.in-Ok.ensures.headline c.in-Ok.ensures.others_stay
