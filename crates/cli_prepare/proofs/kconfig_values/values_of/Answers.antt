use Rattle.std.proofs.Common.{sym, ap, ◌∙◌}
use Rattle.ebpf_base.specs.Maps.{put_all}
use Rattle.cli_prepare.proofs.OpenedObjects.{value_more}
use Rattle.cli_prepare.specs.KernelValues.{value_entry}
use Rattle.cli_prepare.proofs.kconfig_values.values_of.Goals as goal

pub loop-wanted-preserved : goal.loop-wanted-preserved
loop-wanted-preserved c =
    let x = c.wanted-item.result in
    let before = c.loop-wanted.values in
    value_more c.args.kernel.now c.args.order c.args.externs.now c.loop-wanted.wanted-index x before c.add_value.new.values _ c.loop-wanted-test.true c.wanted-item.is
    (c.in_ok-add_value.ensures ∙ ap (λ value. put_all before (value_entry x.name value)) (sym c.in_ok-value.ensures))
    c.loop-wanted.invariant
