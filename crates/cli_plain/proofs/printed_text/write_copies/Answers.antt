use Rattle.std.proofs.Common.{subst}
use Rattle.std.specs.Io.KnownBytes.{Appends}
use Rattle.std.specs.List.{flat_map}
use Rattle.cli_plain.specs.Printed.{copy_line}
use Rattle.cli_common.proofs.Appending.{one_more}
use Rattle.cli_plain.proofs.printed_text.write_copies.Goals as goal

pub loop-copy-preserved : goal.loop-copy-preserved
loop-copy-preserved g c all others =
    one_more copy_line c.args.copies.now c.loop-copy.copy-index c.copy-item.result (g.W.Write.contents c.args.out.now) (g.W.Write.contents c.loop-copy.out) (g.W.Write.contents c.write_copy.new.out) all (flat_map copy_line c.args.copies.now)
    c.loop-copy-test.true c.loop-copy.invariant (subst (λ l. Appends (g.W.Write.contents c.loop-copy.out) (g.W.Write.contents c.write_copy.new.out) (copy_line l)) c.copy-item.is c.in_ok-write_copy.ensures) others
