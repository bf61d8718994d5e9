use Rattle.std.proofs.Common.{◌≡◌}
use Rattle.std.specs.List.{find}
use Rattle.ebpf_elf.specs.Sections.{section_name, sections}
use Rattle.ebpf_btf_load.specs.TypeSources.{is_btf_name}
use Rattle.ebpf_btf_load.proofs.sections.section_named.Given as goal

-- none of the sections so far has the name
abbrev pub invariant-loop-section : goal.invariant-loop-section
invariant-loop-section l =
    find (λ s. is_btf_name l.types.strings l.name_offset (section_name s)) l.section-iterator
    ≡ find (λ s. is_btf_name l.types.strings l.name_offset (section_name s)) (sections l.file)
