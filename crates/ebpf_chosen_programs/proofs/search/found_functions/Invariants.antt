use Rattle.ebpf_chosen_programs.specs.PrivateContracts.{search_of}
use Rattle.ebpf_chosen_programs.proofs.FoundFunctions.{IsSearch, work}
use Rattle.ebpf_chosen_programs.proofs.search.found_functions.Given as goal

abbrev pub invariant-loop-number : goal.invariant-loop-number
invariant-loop-number l = IsSearch l.references l.first (search_of l.search)

abbrev pub decreases-loop-number : goal.decreases-loop-number
decreases-loop-number l = work (search_of l.search)
