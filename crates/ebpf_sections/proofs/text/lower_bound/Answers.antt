use Rattle.std.proofs.Common.{ltb, arith, rules}
use Rattle.std.proofs.lemmas.Bool.Decides.{nat_tests}
use Rattle.std.proofs.lemmas.List.Sorted.{IsPartitionPoint-from_clause, IsPartitionedBy-ltb}
use Rattle.ebpf_sections.proofs.text.lower_bound.Goals as goal

pub returns-clause-cut : goal.returns-clause-cut
returns-clause-cut c =
    let parted = IsPartitionedBy-ltb (λ y. y.now.address) _ c.args.address c.requires in
    let point = IsPartitionPoint-from_clause (λ y. ltb y.now.address c.args.address) _ _ c.partition_point.ensures.partitioned parted (λ a r q k. search rules) in
    (λ k d low high. let e = point.0 k d low high in grind (arith, nat_tests, e), λ k d low high. let e = point.1 k d low high in grind (arith, nat_tests, e))
