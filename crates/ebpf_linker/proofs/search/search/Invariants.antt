use Rattle.ebpf_linker.specs.Numbered.{functions_by_number}
use Rattle.ebpf_linker.specs.Search.{checked_calls, search_at}
use Rattle.ebpf_linker.proofs.Searched.{State, left_of}
use Rattle.ebpf_linker.proofs.Counted.{Counted}
use Rattle.std.proofs.Common.{length}
use Rattle.ebpf_linker.proofs.search.search.Given as goal

abbrev pub invariant-loop-top : goal.invariant-loop-top
invariant-loop-top l = record {
  state : State (length l.functions.bodies.now) (checked_calls l.functions.bodies.now l.functions.references.now l.start) l.start l.progress.order.items l.progress.is_found.items l.progress.work_list.items;
  counted : Counted (functions_by_number l.functions.bodies.now l.functions.references.now) l.progress.order.items l.progress.used;
}

abbrev pub decreases-loop-top : goal.decreases-loop-top
decreases-loop-top l = left_of (checked_calls l.functions.bodies.now l.functions.references.now l.start) (search_at l.progress.order.items l.progress.is_found.items l.progress.work_list.items l.progress.used)
