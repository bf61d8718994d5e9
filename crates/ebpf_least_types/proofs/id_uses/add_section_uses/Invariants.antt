use Rattle.std.proofs.Common.{◌≡◌, ◌++◌, drop}
use Rattle.std.specs.List.{flat_map}
use Rattle.ebpf_least_types.specs.IdUses.{record_use}
use Rattle.ebpf_least_types.proofs.id_uses.add_section_uses.Given as goal

-- with the relocations that are left, all are there
abbrev pub invariant-loop-relocation : goal.invariant-loop-relocation
invariant-loop-relocation l =
    l.uses ++ flat_map (record_use l.section_name) (drop l.relocation-index l.records)
    ≡ l.fn.uses ++ flat_map (record_use l.section_name) l.records
