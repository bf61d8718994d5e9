use Rattle.ebpf_verdict.proofs.OkPrepared.{ok_is_prepared}
use Rattle.ebpf_verdict.proofs.laws.ok_is_prepared.Goals as goal

pub returns : goal.returns
returns c = ok_is_prepared
