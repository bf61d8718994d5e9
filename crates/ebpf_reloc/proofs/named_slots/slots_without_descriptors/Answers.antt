use Rattle.std.proofs.Common.{◌≡◌, subst}
use Rattle.std.specs.Prelude.{IfOk}
use Rattle.ebpf_reloc.specs.NamedSlots.{missing_map, named_slots}
use Rattle.ebpf_reloc.specs.SlotTargets.{read}
use Rattle.ebpf_reloc.specs.declared.map_names.MapNames.{MapNames}
use Rattle.ebpf_reloc.proofs.named_slots.slots_without_descriptors.Goals as goal

pub returns : goal.returns
returns c =
    let parts = read c.args.parts.now in
    subst
    (λ (n : MapNames).
    IfOk c.named_slots.result (λ slots.
    slots ≡ named_slots (missing_map (record { symbols = parts.symbols; names = n; descriptors = c.args.descriptors.now; text_sections = parts.text_sections })) parts.relocations parts.functions))
    c.in_ok-names.ensures c.named_slots.ensures
