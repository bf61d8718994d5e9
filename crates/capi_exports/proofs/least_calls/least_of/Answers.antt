use Rattle.std.proofs.Common.{subst, arith}
use Rattle.std.specs.Prelude.{All}
use Rattle.ebpf_least_types.specs.LeastTypes.{HaveSameOutcomes}
use Rattle.capi_exports.proofs.least_calls.least_of.Goals as goal

pub returns-in-Ok-clause-same : goal.returns-in-Ok-clause-same
returns-in-Ok-clause-same c =
    subst (All (λ o. HaveSameOutcomes o c.args.kernel.now c.in-Ok.types)) c.one.ensures c.in-Ok.ensures.same 0 c.args.object.now (omega arith)
