use Rattle.std.proofs.Common.{◌≡◌, ◌++◌}
use Rattle.std.specs.FinMap.{entries}
use Rattle.std.specs.List.{flat_map}
use Rattle.ebpf_base.specs.Maps.{by_bytes}
use Rattle.ebpf_least_types.specs.IdUses.{extern_use}
use Rattle.ebpf_least_types.proofs.id_uses.add_all_externs.Given as goal

-- with the externs that are left, all are there
abbrev pub invariant-loop-name : goal.invariant-loop-name
invariant-loop-name l =
    l.uses ++ flat_map extern_use (by_bytes l.name-iterator)
    ≡ l.fn.uses ++ flat_map extern_use (entries l.externs)
