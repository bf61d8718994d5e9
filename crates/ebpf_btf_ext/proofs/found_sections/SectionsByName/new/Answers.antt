use Rattle.std.proofs.Common.{◌∙◌, length, ap}
use Rattle.ebpf_btf_ext.proofs.SectionNames.{as_many}
use Rattle.ebpf_btf_ext.proofs.found_sections.SectionsByName.new.Goals as goal

pub with_offsets-requires : goal.with_offsets-requires
with_offsets-requires g c =
    let copied = c.in-Some.copied in
    let sections = c.as_slice.result.now in
    let are = rw c.in-Some.is at c.in_ok-copied.ensures in
    ap length c.as_slice-2.ensures.value ∙ as_many c.args.strings.now copied.names sections copied.offsets.items are ∙ ap length c.as_slice.ensures
