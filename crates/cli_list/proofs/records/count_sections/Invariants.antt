use Rattle.std.proofs.Common.{◌≡◌, drop}
use Rattle.std.specs.BTreeMap.{get}
use Rattle.std.specs.Prelude.{count_by}
use Rattle.cli_list.specs.PrivateContracts.{with_more}
use Rattle.cli_list.specs.RecordCounts.{asks, counted, group_cmp, section_records}
use Rattle.cli_list.specs.declared.records.RecordGroup.{RecordGroup}
use Rattle.cli_list.proofs.records.count_sections.Given as goal

-- with the records of the sections that are left, all are counted
abbrev pub invariant-loop-section : goal.invariant-loop-section
invariant-loop-section l =
    (asked : RecordGroup)
    → with_more (get group_cmp l.counts asked) (count_by (asks l.types asked) (section_records (drop l.section-index l.sections)))
    ≡ counted (count_by (asks l.types asked) (section_records l.sections))
