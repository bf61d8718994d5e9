use Rattle.std.proofs.Common.{map, sym, ◌∙◌}
use Rattle.ebpf_object.proofs.NamesInOrder.{none_missing}
use Rattle.ebpf_object.specs.Stages.{descriptor_of}
use Rattle.ebpf_object.proofs.missing.first_missing.Goals as goal

pub returns-then-are_names_in_order : goal.returns-then-are_names_in_order
returns-then-are_names_in_order c =
    none_missing c.args.object.now (map descriptor_of c.args.descriptors.now) (sym c.are_names_in_order.ensures ∙ c.if-are_names_in_order.true)
