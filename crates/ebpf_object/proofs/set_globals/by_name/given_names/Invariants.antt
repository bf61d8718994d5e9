use Rattle.std.proofs.Common.{◌≡◌, ◌++◌}
use Rattle.std.specs.Map.{keys_of}
use Rattle.ebpf_base.specs.Maps.{lent_bytes}
use Rattle.ebpf_object.proofs.set_globals.by_name.given_names.Given as goal

abbrev pub invariant-loop-name : goal.invariant-loop-name
invariant-loop-name l = lent_bytes l.names.items ++ lent_bytes l.name-iterator ≡ lent_bytes (keys_of l.globals.entries)
