use Rattle.std.proofs.Common.{ap, sym, subst, ◌∙◌}
use Rattle.ebpf_ksyms.specs.Sources.{IsItem, lines_left}
use Rattle.ebpf_ksyms.proofs.lines.TextLinesIterator.next.Goals as goal

pub returns-clause-steps : goal.returns-clause-steps
returns-clause-steps c = (
  c.in_ok-line.line.now,
  ap lines_left (sym c.self.view_is) ∙ c.in_ok-line.ensures,
  subst (λ u. IsItem u.error c.in_ok-line.line.now c.item_of.result) c.self.view_is c.item_of.ensures,
  ap (λ u. u.error) c.self.view_is,
)
