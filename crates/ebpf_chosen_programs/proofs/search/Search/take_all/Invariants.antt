use Rattle.std.proofs.Common.{◌≡◌, drop, map}
use Rattle.std.specs.Prelude.{fold}
use Rattle.ebpf_chosen_programs.specs.PrivateContracts.{search_of, with_target}
use Rattle.ebpf_chosen_programs.proofs.search.Search.take_all.Given as goal

-- with the targets that are left, all are taken
abbrev pub invariant-loop-reference : goal.invariant-loop-reference
invariant-loop-reference l = fold with_target (search_of l.self) (map (λ r. r.target) (drop l.reference-index l.references)) ≡ fold with_target (search_of l.fn.self) (map (λ r. r.target) l.fn.references)
