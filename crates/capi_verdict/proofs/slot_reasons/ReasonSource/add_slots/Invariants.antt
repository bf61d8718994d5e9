use Rattle.std.proofs.Common.{◌≡◌, ◌++◌, drop, map}
use Rattle.capi_verdict.specs.ProgramReasons.{slot_reason}
use Rattle.capi_verdict.proofs.slot_reasons.ReasonSource.add_slots.Given as goal

-- with the reasons of the slots that are left, all are there
abbrev pub invariant-loop-slot : goal.invariant-loop-slot
invariant-loop-slot l =
    l.reasons ++ map (slot_reason l.self.object.now l.self.records.now l.self.program.now l.copies) (drop l.slot-index l.found)
    ≡ l.fn.reasons ++ map (slot_reason l.self.object.now l.self.records.now l.self.program.now l.copies) l.found
