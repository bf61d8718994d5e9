use Rattle.std.proofs.Common.{◌≡◌, ◌++◌, drop, map}
use Rattle.capi_verdict.specs.ProgramReasons.{refused_reason}
use Rattle.capi_verdict.proofs.slot_reasons.ReasonSource.add_refused.Given as goal

-- with the reasons of the relocations that are left, all are there
abbrev pub invariant-loop-number : goal.invariant-loop-number
invariant-loop-number l =
    l.reasons ++ map (refused_reason l.self.object.now l.self.records.now l.self.program.now) (drop l.number-index l.refused)
    ≡ l.fn.reasons ++ map (refused_reason l.self.object.now l.self.records.now l.self.program.now) l.refused
