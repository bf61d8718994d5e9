use Rattle.std.proofs.Common.{◌≡◌, ◌<◌, ◌^◌, ◌++◌, drop}
use Rattle.std.specs.Prelude.{None}
use Rattle.ebpf_kconfig.specs.KconfigMaps.{bytes_from, size_fault_from, lent_externs}
use Rattle.ebpf_kconfig.proofs.layout.bytes_of.Given as goal

-- the bytes so far, and those of the externs that are left, are those of all
abbrev pub invariant-loop-wanted : goal.invariant-loop-wanted
invariant-loop-wanted l = record {
  near : l.end < 2 ^ 32;
  room : size_fault_from l.end (lent_externs (drop l.wanted-index l.externs)) ≡ None;
  bytes : l.bytes ++ bytes_from l.values l.end (lent_externs (drop l.wanted-index l.externs)) ≡ bytes_from l.values 0 (lent_externs l.externs);
}
