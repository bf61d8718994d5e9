use Rattle.ebpf_sections.proofs.InOrder.{begin_at}
use Rattle.ebpf_sections.proofs.info_records.begins_at.Goals as goal

pub returns-clause-cut : goal.returns-clause-cut
returns-clause-cut g c =
    begin_at g.R.NamesSlot.slot_of c.args.slot c.args.rows.now c.args.index c.requires c.if-index-rows.false c.if-not-ends_below.ensures c.if-not-begins_above.ensures
