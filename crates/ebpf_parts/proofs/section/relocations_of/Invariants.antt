use Rattle.std.proofs.Common.{◌≡◌, ◌++◌}
use Rattle.ebpf_elf.specs.Relocations.{relocations}
use Rattle.ebpf_parts.specs.Sections.{target_fault}
use Rattle.ebpf_parts.proofs.section.relocations_of.Given as goal

-- what is left to do from here is what was to do from the start
abbrev pub invariant-loop-relocation : goal.invariant-loop-relocation
invariant-loop-relocation l = record {
  list : l.collected ++ l.relocation-iterator ≡ relocations l.section;
  fault : target_fault l.relocation-iterator ≡ target_fault (relocations l.section);
}
