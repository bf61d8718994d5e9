use Rattle.ebpf_least_types.proofs.SameSoFar.{records_all}
use Rattle.ebpf_least_types.proofs.same_outcomes.same_in_section.Goals as goal

pub returns-clause-same : goal.returns-clause-same
returns-clause-same c =
    records_all c.args.kernel.now.local c.args.kernel.now.target c.args.types.now.target c.args.records.now c.loop-relocation.relocation-index
    c.loop-relocation-test.false c.loop-relocation.invariant.same
