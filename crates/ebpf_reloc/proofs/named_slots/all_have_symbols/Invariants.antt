use Rattle.std.proofs.Common.{◌≡◌}
use Rattle.std.specs.FinMap.{entries}
use Rattle.std.specs.List.{list_all}
use Rattle.std.specs.Prelude.{◌==◌, not}
use Rattle.ebpf_reloc.proofs.named_slots.all_have_symbols.Given as goal

-- the sections that are left decide
abbrev pub invariant-loop-section_relocations : goal.invariant-loop-section_relocations
invariant-loop-section_relocations l =
    list_all (λ s. list_all (λ e. not (e.1.symbol_index == 0)) (entries s.1)) l.section_relocations-iterator
    ≡ list_all (λ s. list_all (λ e. not (e.1.symbol_index == 0)) (entries s.1)) (entries l.relocations)
