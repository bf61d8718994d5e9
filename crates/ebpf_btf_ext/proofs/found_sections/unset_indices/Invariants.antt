use Rattle.ebpf_btf_ext.specs.PrivateContracts.{AreUnset}
use Rattle.ebpf_btf_ext.proofs.found_sections.unset_indices.Given as goal

-- the names so far have no index
abbrev pub invariant-loop-name : goal.invariant-loop-name
invariant-loop-name l = AreUnset l.longest l.indices
