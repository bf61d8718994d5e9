use Rattle.std.proofs.Common.{◌≡◌, false, arith}
use Rattle.std.proofs.lemmas.Bool.Decides.{nat_tests, when_false}
use Rattle.ebpf_sections.proofs.InOrder.{begin_at, if_below}
use Rattle.ebpf_sections.proofs.text.splits.Goals.{then-index-rows, else-index-rows}
use Rattle.ebpf_sections.proofs.text.splits.Goals as goal

pub returns-else-index-eq0-clause-cut : goal.returns-else-index-eq0-clause-cut
returns-else-index-eq0-clause-cut c =
    elim c.if-index-rows.branch [
      | then-index-rows w ↦
          let above : w.is_below.result ≡ false = grind (arith, c.if-not-is_below.true, w.value-is) in
          if_below _ _ _ _ c.is_below-else-index-eq0.ensures
          (λ less. begin_at (λ y. y.now.address) c.args.address _ c.args.index c.requires (omega (arith, w.if-index-rows.true)) (λ d some. less d) (λ d below. when_false _ _ above w.is_below.ensures d))
      | else-index-rows w ↦ absurd (grind (arith, nat_tests, c.if-not-is_below.true, w.value-is, w.if-index-rows.false))
    ]
