use Rattle.std.proofs.Common.{◌≡◌, ◌++◌}
use Rattle.std.specs.FinMap.{entries}
use Rattle.std.specs.List.{flat_map}
use Rattle.ebpf_base.specs.Maps.{by_bytes}
use Rattle.ebpf_least_types.specs.IdUses.{program_use}
use Rattle.ebpf_least_types.proofs.id_uses.add_program_uses.Given as goal

-- with the targets of the programs that are left, all are there
abbrev pub invariant-loop-name : goal.invariant-loop-name
invariant-loop-name l =
    l.uses ++ flat_map (program_use l.object.section_infos) (by_bytes l.name-iterator)
    ≡ l.fn.uses ++ flat_map (program_use l.object.section_infos) (entries l.object.programs)
