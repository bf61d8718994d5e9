use Rattle.std.proofs.Common.{sym, ◌∙◌, ap}
use Rattle.std.specs.FinMap.{get, insert}
use Rattle.std.specs.String.{string_bytes}
use Rattle.std.proofs.lemmas.Map.Text.{btree_map_updates_text}
use Rattle.ebpf_base.proofs.TextMaps.{get-text, one_set_text}
use Rattle.ebpf_base.proofs.by_name.ByName.insert.Goals as goal

pub returns-clause-before : goal.returns-clause-before
returns-clause-before g c = c.in_ok-insert.ensures.old ∙ sym (get-text _ (string_bytes c.args.name)) ∙ ap (λ m. get m (string_bytes c.args.name)) c.self.view_is

pub returns-clause-ok : goal.returns-clause-ok
returns-clause-ok g c = one_set_text _ _ (string_bytes c.args.name) c.args.value (btree_map_updates_text (string_bytes c.args.name) c.self.inside.entries c.insert.new.self _ c.in_ok-insert.ensures.updates) ∙ ap (λ m. insert m (string_bytes c.args.name) c.args.value) c.self.view_is
