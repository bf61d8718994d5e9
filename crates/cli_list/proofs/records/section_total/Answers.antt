use Rattle.std.proofs.Common.{◌+◌, ◌-◌, ◌^◌, ℕ, ap, ◌∙◌}
use Rattle.std.specs.Prelude.{min}
use Rattle.cli_list.proofs.Counted.{total_more, total_whole}
use Rattle.cli_list.proofs.records.section_total.Goals as goal

pub loop-section-preserved : goal.loop-section-preserved
loop-section-preserved c =
    total_more c.args.sections.now c.loop-section.section-index c.section-item.result c.loop-section.total c.saturating_add-total.result c.loop-section-test.true c.section-item.is
    (c.saturating_add-total.ensures ∙ ap (λ (n : ℕ). min (c.loop-section.total + n) (2 ^ 64 - 1)) c.len.ensures)
    c.loop-section.invariant

pub returns : goal.returns
returns c = total_whole c.args.sections.now c.loop-section.section-index c.loop-section.total c.loop-section-test.false c.loop-section.invariant
