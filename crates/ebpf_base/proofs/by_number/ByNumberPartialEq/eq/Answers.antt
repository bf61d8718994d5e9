use Rattle.std.proofs.Common.{sym, ◌∙◌}
use Rattle.std.specs.Cmp.{nat_cmp_total}
use Rattle.ebpf_base.specs.Maps.{maps_eq}
use Rattle.ebpf_base.proofs.SameMaps.{same_maps, other_maps, not_same, number_agrees}
use Rattle.ebpf_base.proofs.by_number.ByNumberPartialEq.eq.Goals as goal

pub returns-then-len : goal.returns-then-len
returns-then-len g c =
    c.eq.ensures
    ∙ same_maps nat_cmp_total _ number_agrees g.V.PartialEq.eq _ _ c.len.ensures.ordered c.len-2.ensures.ordered
    ∙ (λ i. maps_eq g.V.PartialEq.eq (c.self.view_is i) (c.other.view_is i))

pub returns-else-len : goal.returns-else-len
returns-else-len g c =
    not_same _ _ c.if-len.false
    ∙ sym (other_maps nat_cmp_total g.V.PartialEq.eq _ _ c.len.ensures.ordered c.len-2.ensures.ordered (λ e. c.if-len.false (c.len.ensures.len ∙ e ∙ sym c.len-2.ensures.len)))
    ∙ (λ i. maps_eq g.V.PartialEq.eq (c.self.view_is i) (c.other.view_is i))
