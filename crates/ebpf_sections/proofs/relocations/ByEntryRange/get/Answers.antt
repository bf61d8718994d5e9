use Rattle.std.proofs.Common.{sym, ◌∙◌, ap}
use Rattle.std.specs.FinMap.{get}
use Rattle.ebpf_base.proofs.Maps.{get-view}
use Rattle.ebpf_sections.specs.Relocations.{entry_range_total}
use Rattle.ebpf_sections.proofs.relocations.ByEntryRange.get.Goals as goal

pub returns : goal.returns
returns g c = c.get.ensures.value ∙ sym (get-view entry_range_total _ c.entry_range_of.result) ∙ ap (λ m. get m c.entry_range_of.result) c.self.view_is ∙ ap (get c.args.self.now) c.entry_range_of.ensures
