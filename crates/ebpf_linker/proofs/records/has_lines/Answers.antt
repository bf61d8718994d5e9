use Rattle.std.proofs.Common.{◌≡◌, true, false, get_or, sym, ◌∙◌}
use Rattle.ebpf_linker.specs.Faults.{has_some}
use Rattle.ebpf_linker.proofs.Walks.{no_body, lines_after, some_if}
use Rattle.ebpf_linker.proofs.records.has_lines.Goals as goal

pub loop-copy-preserved : goal.loop-copy-preserved
loop-copy-preserved c =
    let known = c.requires c.loop-copy.copy-index 0 c.loop-copy-test.true in
    let none : has_some (get_or c.args.bodies.now (get_or c.args.copies.now c.loop-copy.copy-index 0) no_body).line_info.now ≡ false = some_if _ true (sym c.if-not-is_empty.false ∙ c.is_empty.ensures) in
    lines_after c.args.bodies.now c.args.copies.now 0 c.loop-copy.copy-index c.loop-copy-test.true known _ c.loop-copy.invariant none
