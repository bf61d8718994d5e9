use Rattle.std.proofs.Common.{◌≡◌, drop}
use Rattle.ebpf_base.specs.Faults.{first_some}
use Rattle.ebpf_btf_decls.specs.DataSections.{datasec_match}
use Rattle.ebpf_btf_decls.proofs.data_sections.first_entries.Given as goal

-- none of the types so far is one
abbrev pub invariant-loop-id : goal.invariant-loop-id
invariant-loop-id l = first_some (datasec_match l.btf l.wanted) (drop l.id l.btf.types) ≡ first_some (datasec_match l.fn.btf l.wanted) l.fn.btf.types
