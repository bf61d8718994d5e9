use Rattle.std.proofs.Common.{◌≡◌, ◌++◌, map}
use Rattle.ebpf_base.specs.Maps.{by_bytes}
use Rattle.ebpf_parts.specs.Maps.{map_type_of}
use Rattle.ebpf_verdict.specs.Verdicts.{map_types}
use Rattle.ebpf_verdict.proofs.verdict.map_types.Given as goal

-- with the types of the maps that are left, all are there
abbrev pub invariant-loop-map : goal.invariant-loop-map
invariant-loop-map l = l.types ++ map (λ e. map_type_of e.1) (by_bytes l.map-iterator) ≡ map_types l.object
