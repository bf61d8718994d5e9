use Rattle.std.proofs.Common.{take}
use Rattle.ebpf_outcomes.specs.CallOutcomes.{AreCallOutcomes}
use Rattle.ebpf_reloc.specs.SlotTargets.{read}
use Rattle.ebpf_outcomes.proofs.linking.outcomes_of.Given as goal

-- the outcomes of the programs so far
abbrev pub invariant-loop-program : goal.invariant-loop-program
invariant-loop-program l = AreCallOutcomes (read l.functions.parts) (take l.program-index l.programs) l.outcomes
