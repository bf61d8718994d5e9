use Rattle.ebpf_sections.proofs.InOrder.{part_among}
use Rattle.ebpf_sections.proofs.info_records.rows_among.Goals as goal

pub returns : goal.returns
returns g c =
    part_among g.R.NamesSlot.slot_of c.args.first c.args.count c.args.rows.now c.start_of-start.result c.end_of-end.result
    c.start_of-start.ensures.cut c.end_of-end.ensures.cut c.end_of-end.ensures.further c.end_of-end.ensures.within
