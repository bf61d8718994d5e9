use Rattle.std.proofs.Common.{◌≡◌}
use Rattle.std.specs.List.{find}
use Rattle.std.specs.Prelude.{◌==◌}
use Rattle.ebpf_elf.proofs.section.first_with_index.Given as goal

abbrev pub invariant-loop-section : goal.invariant-loop-section
invariant-loop-section l =
    find (λ s. s.index == l.index) l.section-iterator
    ≡ find (λ s. s.index == l.index) l.fn.sections
