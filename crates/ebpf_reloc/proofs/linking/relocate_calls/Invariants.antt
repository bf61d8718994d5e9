use Rattle.ebpf_reloc.proofs.SoFar.{SoFar}
use Rattle.ebpf_reloc.specs.SlotTargets.{read}
use Rattle.ebpf_reloc.proofs.linking.relocate_calls.Given as goal

-- the programs so far are linked
abbrev pub invariant-loop-program : goal.invariant-loop-program
invariant-loop-program l = SoFar (read l.parts) l.programs l.program-index l.linked
