use Rattle.std.proofs.Common.{Bool, ap, ◌∙◌}
use Rattle.std.specs.BTreeMap.{get}
use Rattle.std.specs.Prelude.{if◌then◌else◌}
use Rattle.cli_list.proofs.Counted.{group_asked}
use Rattle.cli_list.specs.PrivateContracts.{with_more}
use Rattle.cli_list.specs.RecordCounts.{group_cmp}
use Rattle.cli_list.proofs.records.count_record.Goals as goal

pub returns : goal.returns
returns c = λ asked.
    c.in_ok-count_group.ensures asked
    ∙ ap (λ (b : Bool). with_more (get group_cmp c.args.counts.now asked) (if b then 1 else 0))
    (group_asked c.args.types.now c.args.relocation.now c.in_ok-group.group asked c.in_ok-group.ensures)
