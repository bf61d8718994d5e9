use Rattle.ebpf_btf_decls.specs.SectionMaps.{AreWithoutEntries}
use Rattle.ebpf_btf_decls.proofs.data_sections.wanted_names.Given as goal

-- the names so far are looked for
abbrev pub invariant-loop-name : goal.invariant-loop-name
invariant-loop-name l = AreWithoutEntries l.longest l.by_name
