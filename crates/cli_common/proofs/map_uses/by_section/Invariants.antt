use Rattle.std.proofs.Common.{◌≡◌, map}
use Rattle.ebpf_base.specs.Maps.{put_all, by_bytes}
use Rattle.ebpf_parts.specs.Maps.{section_index_of}
use Rattle.cli_common.specs.FunctionMaps.{names_by_section}
use Rattle.cli_common.specs.PrivateContracts.{lent_names}
use Rattle.cli_common.proofs.map_uses.by_section.Given as goal

-- with the names of the maps that are left, all are there
abbrev pub invariant-loop-name : goal.invariant-loop-name
invariant-loop-name l =
    put_all (lent_names l.names) (map (λ e. (section_index_of e.1, e.0)) (by_bytes l.name-iterator)) ≡ names_by_section l.object.maps
