use Rattle.ebpf_core.proofs.Searching.{none_cached}
use Rattle.ebpf_core_relo.proofs.record_search.RecordSearch.new.Goals as goal

pub invariant_of-result : goal.invariant_of-result
invariant_of-result c = none_cached _ c.new-2.result c.new-2.ensures.empty
