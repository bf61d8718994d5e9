use Rattle.std.proofs.Common.{sym, ◌∙◌, ap}
use Rattle.std.specs.FinMap.{get, remove}
use Rattle.std.proofs.lemmas.Map.Text.{btree_map_updates_text}
use Rattle.ebpf_base.proofs.TextMaps.{get-text, one_removed_text}
use Rattle.ebpf_base.proofs.by_name.ByName.remove.Goals as goal

pub returns-clause-value : goal.returns-clause-value
returns-clause-value g c = c.remove.ensures.value ∙ sym (get-text _ c.args.name.now) ∙ ap (λ m. get m c.args.name.now) c.self.view_is

pub returns-clause-others : goal.returns-clause-others
returns-clause-others g c = one_removed_text _ _ c.args.name.now (btree_map_updates_text c.args.name.now c.self.inside.entries c.remove.new.self _ c.remove.ensures.updates) ∙ ap (λ m. remove m c.args.name.now) c.self.view_is
