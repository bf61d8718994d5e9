use Rattle.std.proofs.Common.{◌≡◌, take}
use Rattle.ebpf_btf_ext.specs.SectionNames.{with_offsets}
use Rattle.ebpf_btf_ext.proofs.found_sections.with_offsets.Given as goal

-- the sections so far have their new offsets
abbrev pub invariant-loop-index : goal.invariant-loop-index
invariant-loop-index g l = l.sections.items ≡ with_offsets (take l.index l.offsets) l.fn.sections
