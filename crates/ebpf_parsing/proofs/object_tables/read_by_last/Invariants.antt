use Rattle.std.proofs.Common.{◌≡◌, map}
use Rattle.ebpf_base.specs.Faults.{first_some}
use Rattle.ebpf_parts.specs.Sections.{section_of}
use Rattle.ebpf_parsing.specs.FileContents.{read_fault, sections_fault}
use Rattle.ebpf_parsing.specs.ObjectTables.{all_added, object_tables_of}
use Rattle.ebpf_sections.specs.Relocations.{AreOf}
use Rattle.ebpf_sections.specs.Symbols.{file_symbols}
use Rattle.ebpf_sections.proofs.ReadSections.{others}
use Rattle.ebpf_parsing.proofs.DataLasts.{DataLasts}
use Rattle.ebpf_parsing.proofs.object_tables.read_by_last.Given as goal

-- what is left to do from here is what was to do from the start
abbrev pub invariant-loop-section : goal.invariant-loop-section
invariant-loop-section l = record {
  from : AreOf l.file l.section-iterator;
  lasts : DataLasts l.last (map section_of (others l.section-iterator));
  inputs : l.inputs ≡ l.fn.inputs;
  object_tables : all_added l.fn.inputs l.object_tables (file_symbols l.file) (map section_of (others l.section-iterator)) ≡ object_tables_of l.fn.inputs l.fn.section_infos l.file;
  fault : first_some (read_fault l.fn.inputs.mode l.fn.inputs.btf l.file) (others l.section-iterator) ≡ sections_fault l.fn.inputs.mode l.fn.inputs.btf l.file;
}
