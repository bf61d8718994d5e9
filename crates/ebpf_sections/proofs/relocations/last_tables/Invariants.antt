use Rattle.std.proofs.Common.{◌≡◌, drop}
use Rattle.std.specs.List.{flat_map}
use Rattle.ebpf_base.specs.Maps.{put_all}
use Rattle.ebpf_sections.specs.Relocations.{table_row, last_tables}
use Rattle.ebpf_sections.proofs.relocations.last_tables.Given as goal

-- what is left to do from here is what was to do from the start
abbrev pub invariant-loop-table : goal.invariant-loop-table
invariant-loop-table l = put_all l.last (flat_map table_row (drop l.table-index l.tables)) ≡ last_tables l.tables
