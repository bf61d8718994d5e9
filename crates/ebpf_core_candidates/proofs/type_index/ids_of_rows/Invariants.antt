use Rattle.std.proofs.Common.{◌≡◌, take, map}
use Rattle.ebpf_core_candidates.proofs.type_index.ids_of_rows.Given as goal

abbrev pub invariant-loop-row : goal.invariant-loop-row
invariant-loop-row l = l.ids.items ≡ map (λ r. r.id) (take l.row-index l.rows)
