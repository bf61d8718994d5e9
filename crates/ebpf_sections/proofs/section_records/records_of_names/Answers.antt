use Rattle.std.proofs.Common.{rules}
use Rattle.ebpf_sections.proofs.Records.{none_are, put_are}
use Rattle.ebpf_sections.proofs.section_records.records_of_names.Goals as goal

pub loop-name-init : goal.loop-name-init
loop-name-init c = none_are c.args.found.now c.new-table.result c.new-table.ensures

pub loop-name-preserved : goal.loop-name-preserved
loop-name-preserved c =
    put_are c.args.found.now c.loop-name.table c.insert.new.self _ c.in_ok-records.records c.loop-name.invariant
    c.in_ok-records.ensures.infos (search rules)
