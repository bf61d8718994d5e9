use Rattle.std.proofs.Common.{take}
use Rattle.std.specs.Prelude.{All}
use Rattle.ebpf_least_types.specs.LeastTypes.{HaveSameOutcomes}
use Rattle.ebpf_least_types.proofs.same_outcomes.same_for_all.Given as goal

-- the relocations of the objects so far have the same outcomes
abbrev pub invariant-loop-object : goal.invariant-loop-object
invariant-loop-object l = All (λ o. HaveSameOutcomes o l.kernel l.types) (take l.object-index l.objects)
