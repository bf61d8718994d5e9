use Rattle.std.proofs.Common.{◌≡◌, ◌==◌}
use Rattle.std.specs.FinMap.{entries}
use Rattle.std.specs.List.{find}
use Rattle.ebpf_base.specs.Maps.{by_bytes}
use Rattle.ebpf_parts.specs.Maps.{section_index_of}
use Rattle.ebpf_object.proofs.variables.first_of_section.Given as goal

-- what is found among the maps that are left is what is found among all
abbrev pub invariant-loop-name : goal.invariant-loop-name
invariant-loop-name l = find (λ e. l.section == section_index_of e.1) (by_bytes l.name-iterator) ≡ find (λ e. l.fn.section == section_index_of e.1) (entries l.fn.maps)
