use Rattle.std.proofs.Common.{◌≡◌, ◌++◌, drop}
use Rattle.std.specs.List.{flat_map}
use Rattle.ebpf_least_types.specs.IdUses.{section_uses}
use Rattle.ebpf_least_types.proofs.id_uses.add_sections_uses.Given as goal

-- with the relocations of the sections that are left, all are there
abbrev pub invariant-loop-section : goal.invariant-loop-section
invariant-loop-section l =
    l.uses ++ flat_map section_uses (drop l.section-index l.sections)
    ≡ l.fn.uses ++ flat_map section_uses l.sections
