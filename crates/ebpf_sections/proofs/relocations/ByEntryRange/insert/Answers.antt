use Rattle.std.proofs.Common.{◌∙◌, ap}
use Rattle.std.specs.FinMap.{insert}
use Rattle.ebpf_base.proofs.Maps.{one_set}
use Rattle.ebpf_sections.specs.Relocations.{entry_range_total}
use Rattle.ebpf_sections.proofs.RelocationTables.{places_exact}
use Rattle.ebpf_sections.proofs.relocations.ByEntryRange.insert.Goals as goal

pub returns-clause-ok : goal.returns-clause-ok
returns-clause-ok g c = one_set entry_range_total places_exact _ _ c.entry_range_of.result c.args.value c.in_ok-insert.ensures.updates.0 ∙ ap (λ m. insert m c.entry_range_of.result c.args.value) c.self.view_is ∙ ap (λ p. insert c.args.self.now p c.args.value) c.entry_range_of.ensures
