use Rattle.std.proofs.Common.{◌≡◌, drop}
use Rattle.std.specs.Prelude.{fold}
use Rattle.ebpf_kconfig.specs.KconfigMaps.{with_defined}
use Rattle.ebpf_kconfig.proofs.externs.define_all.Given as goal

-- what is left to write from here gives what all gives from the start
abbrev pub invariant-loop-index : goal.invariant-loop-index
invariant-loop-index l = fold (with_defined l.offsets) l.symbols (drop l.index-index l.indices) ≡ fold (with_defined l.offsets) l.fn.symbols l.indices
