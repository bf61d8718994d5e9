use Rattle.std.proofs.Common.{◌≡◌, drop}
use Rattle.std.specs.BTreeMap.{get}
use Rattle.std.specs.Prelude.{count_by}
use Rattle.cli_list.specs.PrivateContracts.{with_more}
use Rattle.cli_list.specs.RecordCounts.{asks, group_cmp}
use Rattle.cli_list.specs.declared.records.RecordGroup.{RecordGroup}
use Rattle.cli_list.proofs.records.count_section.Given as goal

-- with the records that are left, all are counted
abbrev pub invariant-loop-record : goal.invariant-loop-record
invariant-loop-record l =
    (asked : RecordGroup)
    → with_more (get group_cmp l.counts asked) (count_by (asks l.types asked) (drop l.record-index l.records))
    ≡ with_more (get group_cmp l.fn.counts asked) (count_by (asks l.types asked) l.records)
