use Rattle.std.proofs.Common.{◌<◌, ◌∙◌, length, ap, refl, arith, slice_index_or, slice_set}
use Rattle.ebpf_btf_ext.proofs.SectionNames.{one_put}
use Rattle.ebpf_btf_ext.proofs.found_sections.with_offsets.Goals as goal

pub loop-index-preserved : goal.loop-index-preserved
loop-index-preserved g c =
    let offsets = c.args.offsets.now in
    let index = c.loop-index.index in
    let offset = slice_index_or offsets index 0 in
    let s = c.index_mut.result.now in
    let within : index < length c.args.sections = omega (arith, c.requires, c.loop-index-test.true) in
    ap (λ l. slice_set l index (offset, s.1)) c.loop-index.invariant
    ∙ one_put offsets c.args.sections index offset s c.loop-index-test.true within refl (c.index_mut.ensures.value ∙ ap (λ l. slice_index_or l index s) c.loop-index.invariant)
