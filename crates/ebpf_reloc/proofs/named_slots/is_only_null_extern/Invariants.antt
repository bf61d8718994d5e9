use Rattle.std.proofs.Common.{◌≡◌}
use Rattle.std.specs.List.{list_all}
use Rattle.std.specs.Prelude.{◌==◌, ◌||◌, not}
use Rattle.ebpf_model.specs.Symbols.{is_extern}
use Rattle.ebpf_reloc.proofs.named_slots.is_only_null_extern.Given as goal

-- the symbols that are left decide
abbrev pub invariant-loop-index : goal.invariant-loop-index
invariant-loop-index l = list_all (λ e. e.0 == 0 || not (is_extern e.1)) l.index-iterator ≡ list_all (λ e. e.0 == 0 || not (is_extern e.1)) l.symbols.entries
