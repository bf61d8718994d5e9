use Rattle.std.proofs.Common.{take}
use Rattle.ebpf_btf_ext.specs.SectionNames.{AreCopied}
use Rattle.ebpf_btf_ext.proofs.found_sections.copy_names.Given as goal

-- the names of the sections so far are copied
abbrev pub invariant-loop-offset : goal.invariant-loop-offset
invariant-loop-offset g l = AreCopied l.strings l.names (take l.offset-index l.sections) l.offsets.items
