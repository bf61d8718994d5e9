use Rattle.std.proofs.Common.{◌∙◌, Result, Ok, Err, ap}
use Rattle.std.specs.Prelude.{IfOk}
use Rattle.ebpf_reloc.specs.Maps.{map_edit}
use Rattle.ebpf_reloc.specs.SlotOutcomes.{slot_outcomes}
use Rattle.ebpf_reloc.specs.SlotTargets.{read}
use Rattle.ebpf_reloc.specs.declared.maps.MapTables.{MapTables}
use Rattle.ebpf_reloc.proofs.slot_outcomes.map_slot_outcomes.Goals as goal

on_ok : {X E : Type 0} (P Q : X → Type 0) (r : Result X E) → ((x : X) → P x → Q x) → IfOk r P → IfOk r Q
on_ok P Q (Ok x) f p = f x p
on_ok P Q (Err e) f p = p

pub returns : goal.returns
returns g c =
    let parts = read c.args.parts.now in
    let drained = c.in_ok-tables.ensures in
    on_ok _ _ c.slot_outcomes.result
    (λ outcomes is. (
      drained.0,
      drained.1,
      is ∙ ap (λ (tables : MapTables). slot_outcomes (map_edit (record { symbols = parts.symbols; tables = tables; text_sections = parts.text_sections })) parts.relocations parts.functions) drained.2,
    ))
    c.slot_outcomes.ensures
