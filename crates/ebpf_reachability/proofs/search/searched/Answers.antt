use Rattle.std.proofs.Common.{subst}
use Rattle.ebpf_reachability.specs.Reached.{Searched}
use Rattle.ebpf_reachability.proofs.Visiting.{searched_on}
use Rattle.ebpf_reachability.proofs.search.searched.Goals as goal

pub loop-place-preserved : goal.loop-place-preserved
loop-place-preserved c =
    let before = subst (Searched c.args.slots.now c.loop-place.search.states.items) c.in-Some.ensures.items c.loop-place.invariant in
    searched_on c.args.slots.now _ _ _ _ c.in-Some.place before c.in_ok-follow.ensures
