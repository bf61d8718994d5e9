use Rattle.std.proofs.Common.{List, ◌≤◌, sym, subst}
use Rattle.ebpf_core_relo.specs.Spans.{last_start}
use Rattle.ebpf_core_relo.specs.declared.spans.Span.{Span}
use Rattle.ebpf_core_relo.proofs.Tops.{topped_by}
use Rattle.ebpf_core_relo.proofs.spans.RisingSpans.push.Goals as goal

pub invariant_of-self-2 : goal.invariant_of-self-2
invariant_of-self-2 c =
    topped_by c.self.inside.spans.items c.self.inside.ends.items c.self.inside.top c.self.inside.last_start c.args.span _ _ _ _ c.self.invariant
    (subst (λ (spans : List Span). last_start 0 spans ≤ c.args.span.start) (sym c.self.view_is) c.requires)
    c.in_ok-push.ensures.items c.in_ok-reserve.ensures.items c.in_ok-push-2.ensures.items c.max-top.ensures
