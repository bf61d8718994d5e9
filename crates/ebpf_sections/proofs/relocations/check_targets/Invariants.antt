use Rattle.std.proofs.Common.{◌≡◌, drop}
use Rattle.std.specs.List.{flat_map}
use Rattle.ebpf_elf.specs.Relocations.{table_entries}
use Rattle.ebpf_parts.specs.Sections.{target_fault}
use Rattle.ebpf_sections.proofs.relocations.check_targets.Given as goal

-- what is left to do from here is what was to do from the start
abbrev pub invariant-loop-table : goal.invariant-loop-table
invariant-loop-table l = target_fault (flat_map table_entries (drop l.table-index l.tables)) ≡ target_fault (flat_map table_entries l.tables)
