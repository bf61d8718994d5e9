use Rattle.std.proofs.Common.{◌≡◌, drop}
use Rattle.ebpf_base.specs.Faults.{first_some}
use Rattle.ebpf_kconfig.specs.KconfigMaps.{value_fault}
use Rattle.ebpf_kconfig.proofs.layout.check_values.Given as goal

-- the externs that are left have the fault that all have
abbrev pub invariant-loop-wanted : goal.invariant-loop-wanted
invariant-loop-wanted l = first_some (value_fault l.values) (drop l.wanted-index l.externs) ≡ first_some (value_fault l.values) l.externs
