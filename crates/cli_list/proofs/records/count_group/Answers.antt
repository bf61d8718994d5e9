use Rattle.std.proofs.Common.{◌≡◌, ◌+◌, ◌-◌, ◌^◌, ap, ◌∙◌}
use Rattle.std.specs.BTreeMap.{get}
use Rattle.std.specs.Prelude.{min, unwrap_or}
use Rattle.cli_list.proofs.Counted.{counted_one}
use Rattle.cli_list.specs.RecordCounts.{group_cmp}
use Rattle.cli_list.proofs.records.count_group.Goals as goal

pub returns : goal.returns
returns c =
    let m = c.args.counts.now in
    let k = c.args.group in
    let is : c.saturating_add.result ≡ min (unwrap_or (get group_cmp m k) 0 + 1) (2 ^ 64 - 1) =
    c.saturating_add.ensures
    ∙ ap (λ n. min (n + 1) (2 ^ 64 - 1)) (c.unwrap_or-before.ensures ∙ ap (λ found. unwrap_or found 0) (c.copied.ensures ∙ c.get.ensures.value))
    in
    counted_one m c.insert.new.self k c.saturating_add.result c.in_ok-insert.ensures.updates is
