use Rattle.std.proofs.Common.{◌≡◌, ◌<◌, ◌^◌, drop}
use Rattle.std.specs.Prelude.{None}
use Rattle.std.specs.FinMap.{empty}
use Rattle.ebpf_base.specs.Maps.{put_all}
use Rattle.ebpf_kconfig.specs.KconfigMaps.{extern_offsets, size_fault_from, lent_externs}
use Rattle.ebpf_kconfig.proofs.layout.extern_offsets.Given as goal

-- the offsets so far, and those of the externs that are left, are those of all
abbrev pub invariant-loop-wanted : goal.invariant-loop-wanted
invariant-loop-wanted l = record {
  near : l.end < 2 ^ 32;
  room : size_fault_from l.end (lent_externs (drop l.wanted-index l.externs)) ≡ None;
  offsets : put_all l.offsets (extern_offsets l.end (lent_externs (drop l.wanted-index l.externs))) ≡ put_all empty (extern_offsets 0 (lent_externs l.externs));
}
