use Rattle.std.proofs.Common.{◌≡◌, ◌++◌}
use Rattle.std.specs.List.{flat_map}
use Rattle.std.specs.Option.{option_to_list}
use Rattle.ebpf_initial_slots.specs.MapVariables.{map_variable, variables_of}
use Rattle.ebpf_initial_slots.proofs.variables.variables_of.Given as goal

-- with the variables of the entries that are left, all are there
abbrev pub invariant-loop-entry : goal.invariant-loop-entry
invariant-loop-entry l =
    l.variables ++ flat_map (λ entry. option_to_list (map_variable l.object l.types l.section l.unplaced entry)) l.entry-iterator
    ≡ variables_of l.object l.types l.section l.ty
