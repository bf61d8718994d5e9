use Rattle.std.proofs.Common.{◌≡◌, ◌<◌, ◌^◌, drop}
use Rattle.ebpf_kconfig.specs.KconfigMaps.{layout_end, size_fault_from, lent_externs}
use Rattle.ebpf_kconfig.proofs.layout.layout_end.Given as goal

-- those that are left end where all end, and have the fault that all have
abbrev pub invariant-loop-wanted : goal.invariant-loop-wanted
invariant-loop-wanted l = record {
  near : l.end < 2 ^ 32;
  last : layout_end l.end (lent_externs (drop l.wanted-index l.externs)) ≡ layout_end 0 (lent_externs l.externs);
  fault : size_fault_from l.end (lent_externs (drop l.wanted-index l.externs)) ≡ size_fault_from 0 (lent_externs l.externs);
}
