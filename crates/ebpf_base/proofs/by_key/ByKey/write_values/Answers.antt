use Rattle.std.proofs.Common.{rules, ap, ◌∙◌}
use Rattle.std.proofs.lemmas.Map.Made.{map_same_pairs}
use Rattle.std.specs.FinMap.{from_entries}
use Rattle.ebpf_base.specs.Maps.{key_total, map_values}
use Rattle.ebpf_base.proofs.Maps.{key_exact}
use Rattle.ebpf_base.proofs.Mapped.{map_values-view}
use Rattle.ebpf_base.proofs.by_key.ByKey.write_values.Goals as goal

pub returns : goal.returns
returns g c = λ f writes.
    ap from_entries (map_same_pairs _ f _ (λ k v b w f' t. (search rules, writes v w (search rules), search rules)) _ _ c.retain.ensures.filtered)
    ∙ map_values-view f key_total key_exact _
    ∙ ap (map_values f) c.self.view_is
