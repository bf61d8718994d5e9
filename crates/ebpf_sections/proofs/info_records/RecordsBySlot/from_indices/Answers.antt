use Rattle.std.proofs.Common.{rules}
use Rattle.std.proofs.lemmas.List.Sorted.{IsNonDecreasingBy-from_sort_by_key, answers_always}
use Rattle.ebpf_sections.proofs.InOrder.{stable_at}
use Rattle.ebpf_sections.proofs.info_records.RecordsBySlot.from_indices.Goals as goal

pub invariant_of-result : goal.invariant_of-result
invariant_of-result c = (IsNonDecreasingBy-from_sort_by_key (λ p. p.slot) _ c.in_ok-sort_by_key.ensures.sorted (λ a r q k. search rules), tt)

pub returns-clause-grouped : goal.returns-clause-grouped
returns-clause-grouped c = stable_at (λ p. p.slot) _ _ (c.sort_by_key.ensures.stable (λ p. p.slot) (answers_always _ _ _ (λ f a r g h. search rules)))
