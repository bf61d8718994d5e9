use Rattle.std.proofs.Common.{◌≡◌}
use Rattle.std.specs.FinMap.{entries}
use Rattle.std.specs.List.{list_all}
use Rattle.std.specs.Prelude.{◌==◌, not}
use Rattle.ebpf_reloc.proofs.named_slots.section_has_symbols.Given as goal

-- the relocations that are left decide
abbrev pub invariant-loop-relocation : goal.invariant-loop-relocation
invariant-loop-relocation l = list_all (λ e. not (e.1.symbol_index == 0)) l.relocation-iterator ≡ list_all (λ e. not (e.1.symbol_index == 0)) (entries l.section_relocations)
