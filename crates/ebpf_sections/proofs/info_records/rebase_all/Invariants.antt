use Rattle.std.proofs.Common.{◌≡◌, take, map}
use Rattle.ebpf_sections.proofs.info_records.rebase_all.Given as goal

-- what is kept so far
abbrev pub invariant-loop-row : goal.invariant-loop-row
invariant-loop-row g l = l.kept.items ≡ map (g.R.InfoRecord.rebase l.base) (take l.row-index l.rows)
