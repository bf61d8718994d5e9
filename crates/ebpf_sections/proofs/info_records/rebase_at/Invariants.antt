use Rattle.std.proofs.Common.{◌≡◌, take, map, get_or}
use Rattle.ebpf_sections.proofs.info_records.rebase_at.Given as goal

-- what is kept so far
abbrev pub invariant-loop-index : goal.invariant-loop-index
invariant-loop-index g l = l.kept.items ≡ map (λ i. g.R.InfoRecord.rebase l.base (get_or l.rows i g.R.InfoRecord.zero)) (take l.index-index l.indices)
