use Rattle.ebpf_reachability.proofs.Visiting.{next_taken}
use Rattle.ebpf_reachability.proofs.search.Search.reach_all.Goals as goal

pub loop-place-preserved : goal.loop-place-preserved
loop-place-preserved c = next_taken _ _ _ _ _ _ _ _ c.unknown.ensures c.loop-place.invariant c.in_ok-reach.ensures
