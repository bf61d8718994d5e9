use Rattle.ebpf_reloc.specs.SlotTargets.{read}
use Rattle.ebpf_verdict.proofs.SoFar.{SoFar}
use Rattle.ebpf_verdict.proofs.programs.ProgramJudge.verdicts_on.Given as goal

-- each program so far has its verdict, at its position
abbrev pub invariant-loop-program : goal.invariant-loop-program
invariant-loop-program l =
    SoFar l.self.numbers.now.kernel l.self.numbers.now.map_types.now l.self.records.now (read l.self.functions.now.parts) l.programs l.program-index l.all
