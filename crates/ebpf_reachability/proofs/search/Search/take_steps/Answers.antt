use Rattle.std.proofs.lemmas.Result.{on_ok_weaker}
use Rattle.ebpf_reachability.proofs.Visiting.{taken_then}
use Rattle.ebpf_reachability.proofs.search.Search.take_steps.Goals as goal

pub returns : goal.returns
returns c = on_ok_weaker c.take_targets.result (λ t. taken_then _ _ _ _ _ _ _ _ c.in_ok-take_ways.ensures t) c.take_targets.ensures
