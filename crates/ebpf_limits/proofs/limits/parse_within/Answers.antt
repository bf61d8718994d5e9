use Rattle.ebpf_limits.proofs.OwnedObjects.{owned_within}
use Rattle.ebpf_limits.proofs.limits.parse_within.Goals as goal

pub returns-clause-owned : goal.returns-clause-owned
returns-clause-owned c =
    owned_within c.args.mode c.args.bytes.now c.args.limits.most_bytes c.parse_as.result c.check_size.ensures.short c.in_ok-check_size.ensures.small c.parse_as.ensures.object c.parse_as.ensures.fault
