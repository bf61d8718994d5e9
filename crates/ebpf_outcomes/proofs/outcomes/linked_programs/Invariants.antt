use Rattle.ebpf_outcomes.proofs.PassOutcomes.{SoFarWithMaps}
use Rattle.ebpf_reloc.specs.SlotTargets.{read}
use Rattle.ebpf_outcomes.proofs.outcomes.linked_programs.Given as goal

-- the programs so far are linked, each with its link map
abbrev pub invariant-loop-program : goal.invariant-loop-program
invariant-loop-program l = SoFarWithMaps (read l.functions.parts) l.programs l.program-index l.linked.functions l.linked.link_maps
