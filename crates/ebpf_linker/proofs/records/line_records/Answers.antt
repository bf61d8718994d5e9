use Rattle.ebpf_linker.proofs.Walks.{lines_more, fit_more}
use Rattle.ebpf_linker.proofs.records.line_records.Goals as goal

pub loop-copy-preserved : goal.loop-copy-preserved
loop-copy-preserved c =
    let known = c.requires.copies c.loop-copy.copy-index 0 c.loop-copy-test.true in
    record {
      whole = lines_more c.args.bodies.now c.args.copies.now c.loop-copy.base c.loop-copy.copy-index c.loop-copy-test.true known c.loop-copy.out.items _ _ c.loop-copy.invariant.whole c.in_ok-append_line_info.ensures;
      fit = fit_more c.args.bodies.now c.args.copies.now c.loop-copy.base c.loop-copy.copy-index c.loop-copy-test.true known c.loop-copy.invariant.fit;
    }
