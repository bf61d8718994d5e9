use Rattle.ebpf_least_types.proofs.SameSoFar.{sections_all}
use Rattle.ebpf_least_types.proofs.same_outcomes.same_in_sections.Goals as goal

pub returns : goal.returns
returns c =
    sections_all c.args.kernel.now.local c.args.kernel.now.target c.args.types.now.target c.args.sections.now c.loop-section.section-index
    c.loop-section-test.false c.loop-section.invariant.same
