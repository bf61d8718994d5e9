use Rattle.std.proofs.Common.{◌≡◌}
use Rattle.ebpf_btf_maps.specs.Arenas.{arena_section, last_arena_section}
use Rattle.ebpf_btf_maps.proofs.arena.arena_section.Given as goal

-- the last one with those that are left is the last of all
abbrev pub invariant-loop-section : goal.invariant-loop-section
invariant-loop-section l = last_arena_section l.found l.section-iterator ≡ arena_section l.file
