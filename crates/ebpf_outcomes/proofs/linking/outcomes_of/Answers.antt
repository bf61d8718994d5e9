use Rattle.std.proofs.Common.{arith}
use Rattle.ebpf_outcomes.proofs.CallOutcomes.{all_done, none_yet, one_more}
use Rattle.ebpf_reloc.specs.SlotTargets.{read}
use Rattle.ebpf_outcomes.proofs.linking.outcomes_of.Goals as goal

pub loop-program-init : goal.loop-program-init
loop-program-init c = none_yet (read c.args.functions.now.parts) c.args.programs.now c.new-outcomes.result c.new-outcomes.ensures

pub loop-program-preserved : goal.loop-program-preserved
loop-program-preserved c =
    one_more (read c.args.functions.now.parts) c.args.programs.now c.loop-program.program-index c.loop-program.outcomes c.loop-program.invariant c.program-item.result c.loop-program-test.true c.program-item.is
    c.in_ok-outcome.outcome c.in_ok-outcome.ensures c.push.new.self c.in_ok-push.ensures.ok

pub returns : goal.returns
returns c = all_done (read c.args.functions.now.parts) c.args.programs.now c.loop-program.program-index c.loop-program.outcomes c.loop-program.invariant (omega arith)
