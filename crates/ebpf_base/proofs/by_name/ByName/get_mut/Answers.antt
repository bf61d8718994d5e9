use Rattle.std.proofs.Common.{refl, sym, ap, ◌∙◌}
use Rattle.std.specs.FinMap.{get, insert, from_entries}
use Rattle.ebpf_base.specs.Maps.{by_bytes}
use Rattle.std.proofs.lemmas.Map.Text.{btree_map_updates_text}
use Rattle.ebpf_base.proofs.Maps.{where_some}
use Rattle.ebpf_base.proofs.TextMaps.{get-text, one_set_text}
use Rattle.ebpf_base.proofs.by_name.ByName.get_mut.Goals as goal

pub returns : goal.returns
returns g c = (
  (
    refl,
    λ w. where_some c.get_mut.result _ c.get_mut.ensures.value (λ some. one_set_text _ _ c.args.name.now w (btree_map_updates_text c.args.name.now c.self.inside.entries (c.get_mut.follows.lender w) _ ((c.get_mut.follows.holds w).3 some)) ∙ ap (λ m. insert m c.args.name.now w) c.self.view_is),
    ap (λ m. from_entries (by_bytes m.entries)) c.get_mut.follows.holds-at-none ∙ c.self.view_is,
  ),
  c.get_mut.ensures.value ∙ sym (get-text _ c.args.name.now) ∙ ap (λ m. get m c.args.name.now) c.self.view_is,
)
