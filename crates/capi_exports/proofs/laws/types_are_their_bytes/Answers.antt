use Rattle.capi_exports.proofs.KernelBytes.{types_are_their_bytes}
use Rattle.capi_exports.proofs.laws.types_are_their_bytes.Goals as goal

pub returns : goal.returns
returns c = types_are_their_bytes
