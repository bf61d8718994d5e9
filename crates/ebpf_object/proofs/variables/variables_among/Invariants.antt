use Rattle.std.proofs.Common.{◌≡◌, ◌++◌, map}
use Rattle.std.specs.FinMap.{entries}
use Rattle.std.specs.List.{filter_map}
use Rattle.std.specs.Option.{option_and_then}
use Rattle.ebpf_base.specs.Maps.{by_bytes}
use Rattle.ebpf_object.specs.Variables.{variable_at, variable_value}
use Rattle.ebpf_object.specs.PrivateContracts.{variable_in}
use Rattle.ebpf_object.proofs.variables.variables_among.Given as goal

-- with those of the symbols that are left, all are there
abbrev pub invariant-loop-index : goal.invariant-loop-index
invariant-loop-index l = map variable_value l.all ++ filter_map (λ e. option_and_then variable_in (variable_at l.object.symbol_table (entries l.object.maps) e.1)) (by_bytes l.index-iterator) ≡ filter_map (λ e. option_and_then variable_in (variable_at l.fn.object.symbol_table (entries l.fn.object.maps) e.1)) (entries l.fn.indices)
