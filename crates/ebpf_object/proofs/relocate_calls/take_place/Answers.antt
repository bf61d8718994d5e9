use Rattle.ebpf_object.proofs.Replaced.{at_key}
use Rattle.ebpf_object.proofs.relocate_calls.take_place.Goals as goal

pub returns : goal.returns
returns c = at_key c.args.functions.now c.replace-before.new.self c.args.key c.args.function c.replace-before.result c.replace-before.ensures
