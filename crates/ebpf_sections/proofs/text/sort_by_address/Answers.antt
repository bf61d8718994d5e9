use Rattle.std.proofs.Common.{rules}
use Rattle.std.proofs.lemmas.List.Sorted.{IsNonDecreasingBy-from_sort_by_key, answers_always}
use Rattle.ebpf_sections.proofs.InOrder.{stable_at}
use Rattle.ebpf_sections.proofs.FunctionSymbols.{at_one_address}
use Rattle.ebpf_sections.proofs.text.sort_by_address.Goals as goal

pub returns-clause-rising : goal.returns-clause-rising
returns-clause-rising c = IsNonDecreasingBy-from_sort_by_key (λ y. y.now.address) _ c.in_ok-sort_by_key.ensures.sorted (λ a r q k. search rules)

pub returns-clause-grouped : goal.returns-clause-grouped
returns-clause-grouped c = λ q.
    at_one_address (λ y. y.now) _ _ q (stable_at (λ y. y.now.address) _ _ (c.sort_by_key.ensures.stable (λ y. y.now.address) (answers_always _ _ _ (λ f a r g h. search rules))) q)
