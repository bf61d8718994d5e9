use Rattle.std.proofs.Common.{sym, ◌∙◌}
use Rattle.ebpf_base.specs.Maps.{maps_eq, text_total}
use Rattle.ebpf_base.proofs.SameMaps.{other_maps, not_same}
use Rattle.ebpf_base.proofs.TextMaps.{same_texts, rising_bytes, length-by_bytes}
use Rattle.ebpf_base.proofs.by_name.ByNamePartialEq.eq.Goals as goal

pub returns-then-len : goal.returns-then-len
returns-then-len g c =
    c.eq.ensures
    ∙ same_texts g.V.PartialEq.eq _ _ c.len.ensures.ordered c.len-2.ensures.ordered
    ∙ (λ i. maps_eq g.V.PartialEq.eq (c.self.view_is i) (c.other.view_is i))

pub returns-else-len : goal.returns-else-len
returns-else-len g c =
    not_same _ _ c.if-len.false
    ∙ sym (other_maps text_total g.V.PartialEq.eq _ _ (rising_bytes _ c.len.ensures.ordered) (rising_bytes _ c.len-2.ensures.ordered) (λ e. c.if-len.false (c.len.ensures.len ∙ sym (length-by_bytes _) ∙ e ∙ length-by_bytes _ ∙ sym c.len-2.ensures.len)))
    ∙ (λ i. maps_eq g.V.PartialEq.eq (c.self.view_is i) (c.other.view_is i))
