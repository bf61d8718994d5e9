use Rattle.std.proofs.Common.{◌≡◌, ◌++◌}
use Rattle.std.specs.FinMap.{entries}
use Rattle.ebpf_base.specs.Maps.{by_bytes}
use Rattle.capi_rows.proofs.entries.entries_of.Given as goal

-- with those that are left, all are there
abbrev pub invariant-loop-name : goal.invariant-loop-name
invariant-loop-name g l = l.all.items ++ by_bytes l.name-iterator ≡ entries l.values
