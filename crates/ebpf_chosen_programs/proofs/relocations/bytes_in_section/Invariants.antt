use Rattle.std.proofs.Common.{◌≡◌, ◌++◌, map}
use Rattle.std.specs.Prelude.{◌==◌}
use Rattle.std.specs.FinMap.{contains_key}
use Rattle.std.specs.List.{filter}
use Rattle.ebpf_chosen_programs.specs.PrivateContracts.{bytes_in_section, code_bytes}
use Rattle.ebpf_chosen_programs.proofs.relocations.bytes_in_section.Given as goal

-- with those of the functions that are left, all are there
abbrev pub invariant-loop-key : goal.invariant-loop-key
invariant-loop-key l = l.bytes.items ++ map (code_bytes (contains_key l.reached)) (filter (λ e. e.1.section_index.0 == l.section) l.key-iterator) ≡ bytes_in_section l.fn.functions (contains_key l.fn.reached) l.fn.section
