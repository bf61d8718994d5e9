use Rattle.std.proofs.Common.{drop}
use Rattle.ebpf_btf_ext.proofs.LastIndices.{AreLeft}
use Rattle.ebpf_btf_ext.proofs.found_sections.find_indices.Given as goal

-- the indices so far and the sections that are left give what all sections give
abbrev pub invariant-loop-index : goal.invariant-loop-index
invariant-loop-index g l = AreLeft l.strings l.sections l.longest l.indices (drop l.index l.sections)
