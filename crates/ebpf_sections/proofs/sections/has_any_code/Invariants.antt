use Rattle.std.proofs.Common.{◌≡◌}
use Rattle.std.specs.List.{list_any}
use Rattle.ebpf_elf.specs.Sections.{sections}
use Rattle.ebpf_sections.specs.Sections.{has_code}
use Rattle.ebpf_sections.proofs.sections.has_any_code.Given as goal

-- whether a section that is left has code is whether any has
abbrev pub invariant-loop-section : goal.invariant-loop-section
invariant-loop-section l = list_any has_code l.section-iterator ≡ list_any has_code (sections l.file)
