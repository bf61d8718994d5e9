use Rattle.std.proofs.Common.{◌≡◌, ◌++◌}
use Rattle.std.specs.FinMap.{entries}
use Rattle.std.specs.List.{flat_map}
use Rattle.ebpf_kconfig.specs.KconfigMaps.{group_externs, lent_externs}
use Rattle.ebpf_kconfig.proofs.layout.in_order.Given as goal

-- with the externs of the groups that are left, all are there
abbrev pub invariant-loop-group : goal.invariant-loop-group
invariant-loop-group l =
    lent_externs l.all.items ++ flat_map (λ group. group_externs group.1) l.group-iterator
    ≡ flat_map (λ group. group_externs group.1) (entries l.groups)
