use Rattle.std.proofs.Common.{◌≡◌, ◌++◌, ℕ, filter}
use Rattle.std.specs.Prelude.{◌==◌}
use Rattle.ebpf_elf.specs.Relocations.{relocation_sections, relocated_section}
use Rattle.ebpf_sections.specs.Relocations.{EntryRangesAreCached, AreOf}
use Rattle.ebpf_sections.specs.Sections.{group_at}
use Rattle.ebpf_sections.proofs.relocations.read_relocation_sections.Given as goal

-- what is left to do from here is what was to do from the start
abbrev pub invariant-loop-section : goal.invariant-loop-section
invariant-loop-section l = record {
  from : AreOf l.file l.section-iterator;
  cached : EntryRangesAreCached l.file l.cached;
  groups : (q : ℕ) → group_at l.groups.groups q ++ filter (λ r. relocated_section r == q) l.section-iterator ≡ filter (λ r. relocated_section r == q) (relocation_sections l.file);
}
