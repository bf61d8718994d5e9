use Rattle.std.proofs.Common.{subst}
use Rattle.std.specs.Io.KnownBytes.{Appends}
use Rattle.std.specs.List.{flat_map}
use Rattle.cli_common.specs.SlotText.{slot_line}
use Rattle.cli_common.proofs.Appending.{one_more}
use Rattle.cli_common.proofs.slot_text.write_slots.Goals as goal

pub loop-slot-preserved : goal.loop-slot-preserved
loop-slot-preserved g c all others =
    one_more slot_line c.args.slots.now c.loop-slot.slot-index _ (g.W.Write.contents c.args.out.now) (g.W.Write.contents c.loop-slot.out) (g.W.Write.contents c.write_all.new.self) all (flat_map slot_line c.args.slots.now)
    c.loop-slot-test.true c.loop-slot.invariant (subst (λ l. Appends (g.W.Write.contents c.loop-slot.out) (g.W.Write.contents c.write_all.new.self) l) c.slot_line.ensures c.in_ok-write_all.ensures.bytes) others
