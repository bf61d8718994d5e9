use Rattle.std.proofs.Common.{rules, ◌≡◌, ◌++◌, ◌∷◌, [], length, ◌<◌, Some, ap, ◌∙◌}
use Rattle.ebpf_model.specs.Walks.{walked_relocations}
use Rattle.ebpf_model.specs.declared.walk.Walk.{Walk}
use Rattle.ebpf_reloc.specs.NamedSlots.{named_of, named_slot, naming_of, slot_name}
use Rattle.ebpf_reloc.proofs.CallsRefer.{next_slot}
use Rattle.ebpf_reloc.proofs.NamedSlots.{name_added}
use Rattle.ebpf_reloc.proofs.named_slots.add_named_of.Goals as goal

pub loop-slot-preserved : goal.loop-slot-preserved
loop-slot-preserved c =
    let naming = naming_of c.args.naming.now in
    let section_relocations = walked_relocations c.args.walk.now in
    let f = c.args.function.now in
    let i = c.loop-slot.slot in
    let below : i < length f.instructions = search rules in
    let is : Some c.in-Some.name.now ≡ slot_name naming section_relocations f i = search rules in
    let added : c.push_named.new.found ≡ c.loop-slot.found ++ named_slot c.args.key i c.in-Some.name.now ∷ [] = search rules in
    record {
      found =
          name_added naming section_relocations c.args.key f c.loop-slot.found c.push_named.new.found (c.args.found.now ++ named_of naming section_relocations c.args.key f) i c.in-Some.name.now below is added
          c.loop-slot.invariant.found;
      others = c.relocation_of-relocation.ensures.others ∙ ap (λ (w : Walk). record w { next = c.relocation_of-relocation.new.self.next; ahead = c.relocation_of-relocation.new.self.ahead }) c.loop-slot.invariant.others;
      before = next_slot c.relocation_of-relocation.new.self f.section_offset i c.relocation_of-relocation.ensures.before;
    }
