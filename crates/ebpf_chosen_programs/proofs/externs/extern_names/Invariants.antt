use Rattle.std.proofs.Common.{◌≡◌}
use Rattle.std.specs.List.{flat_map}
use Rattle.ebpf_chosen_programs.specs.LeavingOut.{extern_names, extern_names_in}
use Rattle.ebpf_chosen_programs.specs.PrivateContracts.{name_set, with_names}
use Rattle.ebpf_chosen_programs.proofs.externs.extern_names.Given as goal

-- with the names of the sections that are left, all are there
abbrev pub invariant-loop-table : goal.invariant-loop-table
invariant-loop-table l = with_names l.names (flat_map (λ s. extern_names_in l.symbols s.1) l.table-iterator) ≡ name_set (extern_names l.fn.symbols l.fn.relocations)
