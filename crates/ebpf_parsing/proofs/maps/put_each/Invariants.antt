use Rattle.std.proofs.Common.{◌≡◌, drop}
use Rattle.ebpf_base.specs.Faults.{first_some}
use Rattle.ebpf_base.specs.Maps.{put_all}
use Rattle.ebpf_parsing.specs.Maps.{legacy_maps, legacy_fault}
use Rattle.ebpf_parsing.proofs.maps.put_each.Given as goal

-- what is left to do from here is what was to do from the start
abbrev pub invariant-loop-symbol : goal.invariant-loop-symbol
invariant-loop-symbol l = record {
  put : put_all l.maps (legacy_maps l.section (drop l.symbol-index l.symbols)) ≡ put_all l.fn.maps (legacy_maps l.section l.symbols);
  fault : first_some (legacy_fault l.section) (drop l.symbol-index l.symbols) ≡ first_some (legacy_fault l.section) l.symbols;
}
