use Rattle.std.proofs.Common.{◌≡◌, length, rules, List, Result, Ok, Err, map}
use Rattle.std.specs.Prelude.{IfOk}
use Rattle.std.specs.Vec.Iter.{into_iter_items, into_iter_len, into_iter_steps}
use Rattle.std.specs.declared.vec.IntoIter.{IntoIter}
use Rattle.ebpf_model.specs.Symbols.{text_sections_in}
use Rattle.ebpf_object.proofs.Values.{given_ok}
use Rattle.ebpf_object.specs.LinkedPrograms.{linkable_of}
use Rattle.ebpf_reloc.specs.Maps.{GivenMap, LentMap, given_map}
use Rattle.ebpf_reloc.specs.Passes.{HoldsOfGivenMaps}
use Rattle.ebpf_reloc.specs.SlotOutcomes.{map_outcomes}
use Rattle.ebpf_reloc.specs.declared.slot_outcomes.SlotOutcome.{SlotOutcome}
use Rattle.ebpf_outcomes.proofs.slot_outcomes.slots_of_maps.Goals as goal

-- what holds of the maps that an iterator over a list gives holds of those of the list
of_given : {Z : Type 0} (s : IntoIter LentMap Z) (all : List LentMap) → into_iter_items s ≡ all → into_iter_len s ≡ length all → {U E : Type 0} (r : Result U E) (P : U → List GivenMap → Type 0)
    → IfOk r (λ u. HoldsOfGivenMaps (into_iter_steps {X = LentMap} {Z = Z}) s (P u)) → IfOk r (λ u. P u (map given_map all))
of_given s all items len {E = E} (Ok u) P g = given_ok s all items len {E = E} (Ok u) (P u) g
of_given s all items len (Err e) P g = g

pub returns : goal.returns
returns c =
    let len : into_iter_len c.into_iter.result ≡ length c.args.maps.items = search rules in
    of_given c.into_iter.result c.args.maps.items c.into_iter.ensures.rest len c.map_slot_outcomes.result
    (λ (slots : List SlotOutcome) (given : List GivenMap). slots ≡ map_outcomes (linkable_of c.args.object.now (text_sections_in c.args.text_sections.now)) given) c.map_slot_outcomes.ensures
