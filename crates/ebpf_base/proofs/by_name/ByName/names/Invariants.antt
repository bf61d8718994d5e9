use Rattle.std.proofs.Common.{◌≡◌, ◌++◌, map}
use Rattle.std.specs.Map.{keys_of}
use Rattle.std.specs.String.{string_bytes}
use Rattle.std.specs.FinMap.{entries}
use Rattle.ebpf_base.specs.Maps.{lent_bytes}
use Rattle.ebpf_base.proofs.by_name.ByName.names.Given as goal

abbrev pub invariant-loop-name : goal.invariant-loop-name
invariant-loop-name g l = lent_bytes l.names.items ++ map string_bytes l.name-iterator ≡ keys_of (entries l.self)
