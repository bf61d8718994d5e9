use Rattle.std.proofs.Common.{◌≡◌, drop}
use Rattle.std.specs.FinMap.{get}
use Rattle.std.specs.List.{zip}
use Rattle.ebpf_base.specs.Faults.{first_some}
use Rattle.ebpf_base.specs.Maps.{put_all}
use Rattle.ebpf_btf_decls.specs.SectionMaps.{missing, defined_maps, distinct_maps, distinct_fault}
use Rattle.ebpf_btf_decls.proofs.distinct_maps.DistinctMaps.put.Given as goal

-- what is left to do from here is what was to do from the start
abbrev pub invariant-loop-number : goal.invariant-loop-number
invariant-loop-number l = record {
  put : put_all l.maps (defined_maps (get l.symbols) l.section.index.0 (zip (drop l.number l.self.names.names) (drop l.number l.self.last))) ≡ put_all l.fn.maps (distinct_maps (get l.symbols) l.section.index.0 l.self);
  fault : first_some (λ p. missing (get l.symbols) p.0) (zip (drop l.number l.self.names.names) (drop l.number l.self.last)) ≡ distinct_fault (get l.symbols) l.self;
}
