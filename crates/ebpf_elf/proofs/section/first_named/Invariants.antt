use Rattle.std.proofs.Common.{◌≡◌}
use Rattle.std.specs.List.{find}
use Rattle.ebpf_elf.specs.Names.{is_name}
use Rattle.ebpf_elf.specs.Sections.{section_name}
use Rattle.ebpf_elf.proofs.section.first_named.Given as goal

abbrev pub invariant-loop-section : goal.invariant-loop-section
invariant-loop-section l =
    find (λ s. is_name l.name (section_name s)) l.section-iterator
    ≡ find (λ s. is_name l.name (section_name s)) l.fn.sections
