use Rattle.ebpf_parsing.proofs.PlainFaults as faults
use Rattle.ebpf_limits.proofs.laws.parsing_has_no_limit.Goals as goal

pub returns : goal.returns
returns c = faults.never_too_large
