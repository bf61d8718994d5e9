use Rattle.std.proofs.Common.{sym, ◌∙◌}
use Rattle.ebpf_reloc.specs.SlotTargets.{read}
use Rattle.ebpf_reloc.proofs.NoNames.{none_without_descriptor}
use Rattle.ebpf_reloc.proofs.named_slots.maps_without_descriptors.Goals as goal

pub returns-then-all_described : goal.returns-then-all_described
returns-then-all_described c =
    c.new.ensures
    ∙ none_without_descriptor c.args.descriptors.now (read c.args.parts.now) c.args.maps.now (sym c.all_described.ensures ∙ c.if-all_described.true)
