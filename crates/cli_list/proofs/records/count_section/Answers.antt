use Rattle.cli_list.proofs.Counted.{record_more}
use Rattle.cli_list.proofs.records.count_section.Goals as goal

pub loop-record-preserved : goal.loop-record-preserved
loop-record-preserved c = λ asked.
    record_more c.args.types.now c.args.records.now c.loop-record.record-index _ c.loop-record.counts c.count_record.new.counts asked _ c.loop-record-test.true
    (c.in_ok-count_record.ensures asked) (c.loop-record.invariant asked)
