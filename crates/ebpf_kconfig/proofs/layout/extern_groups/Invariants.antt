use Rattle.std.proofs.Common.{◌≡◌}
use Rattle.std.specs.Prelude.{fold}
use Rattle.std.specs.Vec.Iter.{into_iter_items}
use Rattle.ebpf_kconfig.specs.KconfigMaps.{extern_groups, with_extern}
use Rattle.ebpf_kconfig.proofs.layout.extern_groups.Given as goal

-- the groups with the externs that are left are those of all
abbrev pub invariant-loop-wanted : goal.invariant-loop-wanted
invariant-loop-wanted l = fold with_extern l.groups (into_iter_items l.wanted-iterator) ≡ extern_groups l.fn.externs.items
