use Rattle.ebpf_sections.specs.Records.{AreRecordsOf}
use Rattle.ebpf_sections.proofs.section_records.records_of_names.Given as goal

abbrev pub invariant-loop-name : goal.invariant-loop-name
invariant-loop-name l = AreRecordsOf l.found l.table
