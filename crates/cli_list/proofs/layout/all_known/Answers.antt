use Rattle.std.proofs.Common.{ap, ◌∙◌}
use Rattle.std.specs.FinMap.{FinMap, entries}
use Rattle.ebpf_base.specs.Maps.{put_all, text_cmp, text_total, mapped_entries}
use Rattle.ebpf_base.proofs.TextMaps.{text_exact}
use Rattle.ebpf_model.specs.declared.symbol.ExternDesc.{ExternDesc}
use Rattle.cli_common.proofs.FirstEntries.{put_firsts-map_values}
use Rattle.cli_common.specs.HelperCalls.{put_firsts}
use Rattle.cli_common.specs.ObjectPrograms.{settings_named, unknown}
use Rattle.cli_list.proofs.layout.all_known.Goals as goal

pub returns : goal.returns
returns c =
    let externs = c.args.object.now.externs in
    c.in_ok-add_settings.ensures
    ∙ ap (λ (m : FinMap text_cmp ExternDesc). put_all m (settings_named c.args.settings.now))
    (c.in_ok-add_unknown.ensures
    ∙ ap (λ (m : FinMap text_cmp ExternDesc). put_firsts m (mapped_entries unknown (entries externs))) c.new-known.ensures
    ∙ put_firsts-map_values unknown text_total text_exact externs)
