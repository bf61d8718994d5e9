use Rattle.std.proofs.Common.{◌≡◌, sym, ap, ◌∙◌}
use Rattle.std.specs.FinMap.{entries}
use Rattle.std.specs.Map.{values_of}
use Rattle.ebpf_base.proofs.TextMaps.{values-by_bytes, entries-text}
use Rattle.ebpf_base.proofs.by_name.ByName.values.Goals as goal

pub returns-clause-all : goal.returns-clause-all
returns-clause-all g c =
    c.values.ensures.rest
    ∙ values-by_bytes _
    ∙ ap values_of (sym (entries-text c.self.inside.entries.entries c.values.ensures.ordered))
    ∙ ap (λ m. values_of (entries m)) c.self.view_is
