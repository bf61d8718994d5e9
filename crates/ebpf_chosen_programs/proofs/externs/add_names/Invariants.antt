use Rattle.std.proofs.Common.{◌≡◌}
use Rattle.std.specs.List.{filter_map}
use Rattle.ebpf_chosen_programs.specs.LeavingOut.{extern_name, extern_names_in}
use Rattle.ebpf_chosen_programs.specs.PrivateContracts.{with_names}
use Rattle.ebpf_chosen_programs.proofs.externs.add_names.Given as goal

-- with the names of the relocations that are left, all are there
abbrev pub invariant-loop-relocation : goal.invariant-loop-relocation
invariant-loop-relocation l = with_names l.names (filter_map (λ r. extern_name l.symbols r.1) l.relocation-iterator) ≡ with_names l.fn.names (extern_names_in l.fn.symbols l.fn.relocations)
