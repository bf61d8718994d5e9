use Rattle.std.proofs.Common.{rules, ◌≡◌, ◌∙◌, List, map, ap}
use Rattle.ebpf_model.specs.Symbols.{TextSections}
use Rattle.ebpf_object.specs.LinkedPrograms.{linkable_of}
use Rattle.ebpf_object.specs.Names.{has_function_in}
use Rattle.ebpf_object.specs.Stages.{descriptor_of}
use Rattle.ebpf_outcomes.specs.SlotOutcomes.{map_outcome, map_slots}
use Rattle.ebpf_reloc.specs.Maps.{GivenMap, given_map}
use Rattle.ebpf_reloc.specs.SlotOutcomes.{map_outcomes}
use Rattle.ebpf_reloc.specs.declared.map_names.MapNames.{MapNames}
use Rattle.ebpf_reloc.specs.declared.slot_outcomes.SlotOutcome.{SlotOutcome}
use Rattle.ebpf_outcomes.proofs.slot_outcomes.map_outcomes.Goals as goal

pub returns : goal.returns
returns c =
    let o = c.args.object.now in
    let descriptors = map descriptor_of c.args.descriptors.now in
    let made : c.from_vec.result ≡ c.in_ok-outcomes.outcomes.items = search rules in
    let sliced : c.as_slice.result.now ≡ c.in_ok-slots.slots = search rules in
    let slots : c.in_ok-slots.slots ≡ map_slots descriptors o =
    c.in_ok-slots.ensures
    ∙ ap (λ (t : TextSections). map_outcomes (linkable_of o t) (map given_map c.in_ok-own.own.items)) c.in_ok-sections.ensures
    ∙ ap (λ (given : List GivenMap). map_outcomes (linkable_of o (has_function_in o.functions)) given) c.in_ok-own.ensures in
    made
    ∙ c.in_ok-outcomes.ensures
    ∙ ap (λ (list : List SlotOutcome). map (map_outcome c.in_ok-names.names o.symbol_table) list) (sliced ∙ slots)
    ∙ ap (λ (names : MapNames). map (map_outcome names o.symbol_table) (map_slots descriptors o)) c.in_ok-names.ensures
