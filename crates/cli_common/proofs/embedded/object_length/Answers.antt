use Rattle.std.proofs.Common.{rules, ◌≡◌, ◌+◌, ◌*◌, ◌<◌, arith}
use borrow.Author.Count.{below_more}
use Rattle.ebpf_elf.specs.Headers.{e_shoff, e_shnum}
use Rattle.cli_common.specs.EmbeddedObjects.{section_data_end}
use Rattle.cli_common.proofs.embedded.object_length.Goals as goal

pub loop-index-preserved : goal.loop-index-preserved
unfolding e_shoff e_shnum
loop-index-preserved c =
    let this : c.section_end_at.result ≡ section_data_end c.args.bytes.now (e_shoff c.args.bytes.now + 64 * c.loop-index.index) = search rules in
    record {
      inside = omega arith;
      covers = record {
        header = omega arith;
        section_headers = omega (arith, c.loop-index.invariant.covers.section_headers);
        sections = below_more _ _ (λ i below. omega (arith, c.loop-index.invariant.covers.sections i below)) (omega (arith, this));
      };
      least = λ other covers.
          let count : c.loop-index.index < e_shnum c.args.bytes.now = search rules in
          omega (arith, this, c.loop-index.invariant.least other covers, covers.sections c.loop-index.index count);
    }
