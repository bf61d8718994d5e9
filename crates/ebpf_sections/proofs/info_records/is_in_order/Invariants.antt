use Rattle.std.proofs.Common.{◌≡◌, drop}
use Rattle.ebpf_sections.specs.Records.{rises_from}
use Rattle.ebpf_sections.proofs.info_records.is_in_order.Given as goal

-- whether the rows that are left rise from the last one on is whether all rise
abbrev pub invariant-loop-row : goal.invariant-loop-row
invariant-loop-row g l = rises_from g.R.NamesSlot.slot_of l.last (drop l.row-index l.rows) ≡ rises_from g.R.NamesSlot.slot_of 0 l.rows
