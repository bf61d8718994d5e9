use Rattle.std.proofs.Common.{Some, ap, ◌∙◌}
use Rattle.capi_exports.proofs.HeldObjects.{fills_held}
use Rattle.capi_rows.specs.Answers.{or_memory}
use Rattle.capi_rows.specs.MapSlots.{read_slots_without_descriptors}
use Rattle.capi_exports.proofs.wanted_calls.exact_ebpf_maps_without_descriptors.Goals as goal

pub returns-clause-fills : goal.returns-clause-fills
returns-clause-fills c =
    fills_held (λ o. or_memory c.write_slots_without-number.result (read_slots_without_descriptors c.args.names.now c.args.descriptors.now o)) _ c.deref.result.now
    _ _ _ _ _ _ _ (ap Some c.deref.ensures ∙ c.in-Some.ensures.held) c.write_slots_without-number.ensures
