use Rattle.std.proofs.Common.{◌≡◌, ◌++◌, drop}
use Rattle.std.specs.List.{flat_map}
use Rattle.ebpf_base.specs.Maps.{lent_bytes}
use Rattle.ebpf_object.specs.PrivateContracts.{program_with}
use Rattle.ebpf_object.proofs.relocate_calls.programs_named.Given as goal

-- with those of the names that are left, all are there
abbrev pub invariant-loop-name : goal.invariant-loop-name
invariant-loop-name l = l.keys.items ++ flat_map (program_with l.programs) (lent_bytes (drop l.name-index l.names)) ≡ flat_map (program_with l.fn.programs) (lent_bytes l.fn.names)
