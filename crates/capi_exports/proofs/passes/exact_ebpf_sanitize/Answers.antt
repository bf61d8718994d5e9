use Rattle.std.proofs.Common.{Some, ap, ◌∙◌}
use Rattle.capi_exports.proofs.Handles.{of_handle}
use Rattle.capi_exports.specs.PassOrder.{Sets}
use Rattle.std.specs.Prelude.{not, ◌==◌}
use Rattle.capi_exports.specs.Settings.{IsSanitized}
use Rattle.capi_exports.proofs.passes.exact_ebpf_sanitize.Goals as goal

pub returns : goal.returns
returns c =
    of_handle (Sets (IsSanitized (not (c.args.has_newer == 0)))) _ _ c.deref_mut.result.now _ _
    (ap Some c.deref_mut.ensures.value ∙ c.in-Some.ensures.held) c.put.ensures c.set_helpers-number.ensures
