use Rattle.std.proofs.Common.{subst}
use Rattle.cli_list.proofs.Counted.{section_more}
use Rattle.cli_list.specs.PrivateContracts.{CountsMore}
use Rattle.cli_list.proofs.records.count_sections.Goals as goal

pub loop-section-preserved : goal.loop-section-preserved
loop-section-preserved c = λ asked.
    let types = c.args.types.now in
    let m = c.loop-section.counts in
    let n = c.count_section.new.counts in
    section_more types c.args.sections.now c.loop-section.section-index c.section-item.result m n asked _ c.loop-section-test.true c.section-item.is
    (subst (λ records. CountsMore types m records n) c.as_slice.ensures c.in_ok-count_section.ensures) (c.loop-section.invariant asked)
