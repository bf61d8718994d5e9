use Rattle.std.proofs.Common.{ℕ, ◌-◌, ◌<◌, ◌≤◌, get_or, length}
use Rattle.ebpf_sections.proofs.info_records.end_of.Given as goal

abbrev pub invariant-loop-end : goal.invariant-loop-end
invariant-loop-end g l = record {
  further : l.start ≤ l.«end»;
  within : l.«end» ≤ length l.rows;
  below : (k : ℕ) (d : g.row.R.Denot) → k < l.«end» → g.R.NamesSlot.slot_of (get_or l.rows k d) < l.limit;
}

abbrev pub decreases-loop-end : goal.decreases-loop-end
decreases-loop-end g l = length l.rows - l.«end»
