use Rattle.ebpf_core_candidates.specs.Candidates.{NamesBelowAreMarked}
use Rattle.ebpf_core_candidates.proofs.type_names.names_of.Given as goal

abbrev pub invariant-loop-id : goal.invariant-loop-id
invariant-loop-id l = NamesBelowAreMarked l.marks.items l.kinds l.btf l.id
