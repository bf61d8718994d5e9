use Rattle.std.proofs.Common.{◌≡◌, ◌++◌, drop, map}
use Rattle.capi_verdict.specs.ObjectReasons.{lacking_reason}
use Rattle.capi_verdict.proofs.object_reasons.add_lacking.Given as goal

-- with the reasons of the externs that are left, all are there
abbrev pub invariant-loop-missing : goal.invariant-loop-missing
invariant-loop-missing l = l.reasons ++ map lacking_reason (drop l.missing-index l.lacking) ≡ l.fn.reasons ++ map lacking_reason l.lacking
