use Rattle.std.proofs.Common.{Some, ap, ◌∙◌}
use Rattle.capi_exports.proofs.Handles.{of_handle}
use Rattle.capi_exports.specs.PassOrder.{Sets}
use Rattle.capi_exports.specs.Settings.{SetsData}
use Rattle.capi_exports.proofs.map_settings.exact_ebpf_set_map_data.Goals as goal

pub returns : goal.returns
returns c =
    of_handle (Sets (SetsData c.args.bytes.now c.args.name.now)) _ _ c.deref_mut.result.now _ _
    (ap Some c.deref_mut.ensures.value ∙ c.in-Some.ensures.held) c.put.ensures c.set_held_data-number.ensures
