use Rattle.std.proofs.Common.{List, subst}
use Rattle.std.proofs.lemmas.Result.{on_ok_weaker}
use Rattle.ebpf_reachability.specs.declared.steps.SlotState.{SlotState}
use Rattle.ebpf_reachability.specs.Reached.{TakesIn}
use Rattle.ebpf_reachability.proofs.Visiting.{taken_then}
use Rattle.ebpf_reachability.proofs.search.Search.take_ways.Goals as goal

pub returns : goal.returns
returns c =
    let A = c.args.self.now in
    let B = c.take-2.new.self in
    on_ok_weaker c.take-2.result (λ t. subst (λ (s : List SlotState). TakesIn s A.states.items B.states.items A.pending.items B.pending.items) c.steps_from-first.ensures.steps (taken_then _ _ _ _ _ _ _ _ c.in_ok-take.ensures t)) c.take-2.ensures
