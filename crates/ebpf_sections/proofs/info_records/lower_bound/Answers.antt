use Rattle.std.proofs.Common.{ltb, arith, rules}
use Rattle.std.proofs.lemmas.Bool.Decides.{nat_tests}
use Rattle.std.proofs.lemmas.List.Sorted.{IsPartitionPoint-from_clause, IsPartitionedBy-ltb}
use Rattle.ebpf_sections.proofs.info_records.lower_bound.Goals as goal

pub returns-clause-cut : goal.returns-clause-cut
returns-clause-cut g c =
    let slot_of = g.R.NamesSlot.slot_of in
    let parted = IsPartitionedBy-ltb slot_of _ c.args.slot c.requires in
    let point = IsPartitionPoint-from_clause (λ r. ltb (slot_of r) c.args.slot) _ _ c.partition_point.ensures.partitioned parted (λ a r q k. search rules) in
    (λ k d low high. let e = point.0 k d low high in grind (arith, nat_tests, e), λ k d low high. let e = point.1 k d low high in grind (arith, nat_tests, e))
