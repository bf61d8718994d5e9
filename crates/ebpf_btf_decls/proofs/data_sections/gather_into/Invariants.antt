use Rattle.std.proofs.Common.{drop}
use Rattle.ebpf_btf_decls.proofs.SectionMaps.{AreGathered}
use Rattle.ebpf_btf_decls.proofs.data_sections.gather_into.Given as goal

-- what the ids so far and the types that are left declare is what all types declare
abbrev pub invariant-loop-id : goal.invariant-loop-id
invariant-loop-id l = AreGathered l.btf l.fn.by_name l.longest l.by_name (drop l.id l.btf.types)
