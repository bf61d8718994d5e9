use Rattle.std.proofs.Common.{◌≡◌, ◌<◌, ◌+◌, ◌++◌, length, map, take, drop, slice_set, arith, sym, subst}
use Rattle.std.proofs.lemmas.List.{get_or_default}
use Rattle.std.proofs.lemmas.List.Edits.{map_over_more}
use Rattle.ebpf_object.specs.OlderHelpers.{older}
use Rattle.ebpf_object.proofs.sanitize.write_older.Goals as goal

pub loop-slot-preserved : goal.loop-slot-preserved
loop-slot-preserved c =
    let within : c.loop-slot.slot-index < length c.loop-slot.slots = omega arith in
    let inside : c.loop-slot.slot-index < length c.args.slots.now = omega arith in
    subst (λ v. slice_set c.loop-slot.slots c.loop-slot.slot-index v ≡ map older (take (c.loop-slot.slot-index + 1) c.args.slots.now) ++ drop (c.loop-slot.slot-index + 1) c.args.slots.now)
    (sym c.older.ensures)
    (map_over_more older c.args.slots.now c.loop-slot.slots c.loop-slot.slot-index _ inside c.loop-slot.invariant (get_or_default c.loop-slot.slots c.loop-slot.slot-index _ _ within))
