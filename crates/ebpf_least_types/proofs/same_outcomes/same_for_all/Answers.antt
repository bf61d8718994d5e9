use Rattle.ebpf_least_types.proofs.SameSoFar.{objects_all}
use Rattle.ebpf_least_types.proofs.same_outcomes.same_for_all.Goals as goal

pub returns : goal.returns
returns c =
    objects_all c.args.kernel.now c.args.types.now c.args.objects.now c.loop-object.object-index c.loop-object-test.false c.loop-object.invariant
