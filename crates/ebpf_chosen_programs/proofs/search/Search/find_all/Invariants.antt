use Rattle.std.proofs.Common.{◌≡◌, drop}
use Rattle.std.specs.Prelude.{fold}
use Rattle.ebpf_chosen_programs.specs.PrivateContracts.{search_of, with_found}
use Rattle.ebpf_chosen_programs.proofs.search.Search.find_all.Given as goal

-- with the numbers that are left, all are found
abbrev pub invariant-loop-number : goal.invariant-loop-number
invariant-loop-number l = fold with_found (search_of l.self) (drop l.number-index l.numbers) ≡ fold with_found (search_of l.fn.self) l.fn.numbers
