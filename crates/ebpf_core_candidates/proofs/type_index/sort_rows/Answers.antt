use Rattle.std.proofs.Common.{rules}
use Rattle.std.specs.List.Sorted.{IsSortedBy, IsStableBy}
use Rattle.std.specs.Ordering.{is_lt, nat_cmp}
use Rattle.std.proofs.lemmas.List.Sorted.{answers_always}
use Rattle.ebpf_core_candidates.specs.declared.type_row.TypeRow.{TypeRow}
use Rattle.ebpf_core_candidates.specs.TypeRows.{is_before, type_key_at, type_key_cmp, row_key, row_key_total}
use Rattle.ebpf_core_candidates.proofs.CandidateRows.{from_closure, stable_finer, stable_twice, ties_first}
use Rattle.ebpf_core_candidates.proofs.type_index.sort_rows.Goals as goal

pub returns-clause-sorted : goal.returns-clause-sorted
returns-clause-sorted c =
    from_closure row_key_total (row_key c.args.names.now) (λ lt. IsSortedBy lt _) c.in_ok-sort_by.ensures.sorted (λ a r f k. search rules)

pub returns-clause-stable : goal.returns-clause-stable
returns-clause-stable c =
    let info = c.args.names.now in
    let by_hash : IsStableBy (λ a b. is_lt (nat_cmp a.hash b.hash)) c.args.rows.now.items c.sort_by_key.new.self.items =
    c.in_ok-sort_by_key.ensures.stable (λ r. r.hash) (answers_always _ _ _ (λ f a r g k. search rules)) in
    let first : IsStableBy (is_before info) c.args.rows.now.items c.sort_by_key.new.self.items =
    stable_finer (λ a b. is_lt (nat_cmp a.hash b.hash)) (is_before info)
    (λ (x y : TypeRow). ties_first (nat_cmp x.hash y.hash) (type_key_cmp (type_key_at info x.id) (type_key_at info y.id)) (nat_cmp y.hash x.hash) (type_key_cmp (type_key_at info y.id) (type_key_at info x.id)))
    _ _ by_hash in
    let second : IsStableBy (is_before info) c.sort_by_key.new.self.items c.sort_by.new.self.items =
    from_closure row_key_total (row_key info) (λ lt. IsStableBy lt _ _) c.in_ok-sort_by.ensures.stable (λ a r f k. search rules) in
    stable_twice (is_before info) _ _ _ first second
