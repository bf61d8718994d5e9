use Rattle.std.proofs.Common.{◌≡◌, map}
use Rattle.std.specs.List.{flat_map}
use Rattle.ebpf_base.specs.Maps.{put_all}
use Rattle.ebpf_parts.specs.Sections.{section_of}
use Rattle.ebpf_sections.specs.Sections.{data_row, last_data, object_sections}
use Rattle.ebpf_sections.proofs.ReadSections.{others}
use Rattle.ebpf_sections.proofs.sections.SectionNames.read.Given as goal

-- what is left to do from here is what was to do from the start
abbrev pub invariant-loop-section : goal.invariant-loop-section
invariant-loop-section l = put_all l.names.last_data (flat_map data_row (map section_of (others l.section-iterator))) ≡ last_data (object_sections l.file)
