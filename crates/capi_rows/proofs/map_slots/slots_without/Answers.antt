use Rattle.std.proofs.Common.{rules, ◌≡◌, map, ap, ◌∙◌}
use Rattle.ebpf_object.specs.Stages.{descriptor_of, maps_without_descriptors}
use Rattle.capi_rows.specs.Descriptors.{descriptors_in}
use Rattle.capi_rows.proofs.map_slots.slots_without.Goals as goal

pub returns : goal.returns
returns c =
    let given : map descriptor_of c.deref.result.now ≡ descriptors_in c.args.text.now c.args.rows.now = search rules in
    c.in_ok-slots.ensures ∙ ap (maps_without_descriptors c.args.object.now) given
