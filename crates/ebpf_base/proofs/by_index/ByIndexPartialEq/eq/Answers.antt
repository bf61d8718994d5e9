use Rattle.std.proofs.Common.{◌∙◌}
use Rattle.ebpf_base.specs.Maps.{maps_eq}
use Rattle.ebpf_base.proofs.SameMaps.{hashed_numbers}
use Rattle.ebpf_base.proofs.by_index.ByIndexPartialEq.eq.Goals as goal

pub returns : goal.returns
returns g c =
    c.eq.ensures
    ∙ hashed_numbers g.V.PartialEq.eq c.self.inside.entries c.other.inside.entries
    ∙ (λ i. maps_eq g.V.PartialEq.eq (c.self.view_is i) (c.other.view_is i))
