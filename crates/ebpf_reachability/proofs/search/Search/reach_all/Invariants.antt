use Rattle.ebpf_reachability.specs.Reached.{TakesIn}
use Rattle.ebpf_reachability.specs.Steps.{first_slots}
use Rattle.ebpf_reachability.proofs.search.Search.reach_all.Given as goal

abbrev pub invariant-loop-place : goal.invariant-loop-place
invariant-loop-place l = TakesIn (first_slots l.place) l.fn.self.states.items l.self.states.items l.fn.self.pending.items l.self.pending.items
