use Rattle.std.proofs.Common.{◌≡◌, drop, map}
use Rattle.std.specs.FinMap.{empty}
use Rattle.std.specs.List.{flat_map}
use Rattle.ebpf_base.specs.Maps.{put_all}
use Rattle.ebpf_elf.specs.Relocations.{table_entries}
use Rattle.ebpf_sections.specs.Relocations.{AreOf, file_of_tables, relocations_by_offset, offset_of}
use Rattle.ebpf_sections.proofs.RelocationTables.{TableLasts}
use Rattle.ebpf_sections.proofs.relocations.put_last_tables.Given as goal

-- what is left to do from here is what was to do from the start
abbrev pub invariant-loop-table : goal.invariant-loop-table
invariant-loop-table l = record {
  from : AreOf (file_of_tables l.tables) (drop l.table-index l.tables);
  lasts : TableLasts l.last (drop l.table-index l.tables);
  put : put_all (put_all empty l.entries.items) (map offset_of (flat_map table_entries (drop l.table-index l.tables))) ≡ relocations_by_offset (flat_map table_entries l.tables);
}
