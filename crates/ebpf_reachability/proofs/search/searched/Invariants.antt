use Rattle.ebpf_reachability.specs.Reached.{Searched, work_left}
use Rattle.ebpf_reachability.proofs.search.searched.Given as goal

abbrev pub invariant-loop-place : goal.invariant-loop-place
invariant-loop-place l = Searched l.slots l.search.states.items l.search.pending.items

abbrev pub decreases-loop-place : goal.decreases-loop-place
decreases-loop-place l = work_left l.search.states.items l.search.pending.items
