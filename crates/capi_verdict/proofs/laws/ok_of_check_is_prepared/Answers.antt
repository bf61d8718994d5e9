use Rattle.capi_verdict.proofs.Prepared.{ok_of_check_is_prepared}
use Rattle.capi_verdict.proofs.laws.ok_of_check_is_prepared.Goals as goal

pub returns : goal.returns
returns c = ok_of_check_is_prepared
