use Rattle.std.proofs.Common.{rules, leb}
use Rattle.std.proofs.lemmas.List.Sorted.{IsPartitionPoint-from_clause}
use Rattle.ebpf_core_relo.proofs.spans.upper_bound.Goals as goal

pub returns : goal.returns
returns c = IsPartitionPoint-from_clause (λ end. leb end c.args.slot) _ _ c.partition_point.ensures.partitioned c.requires (λ a r q k. search rules)
