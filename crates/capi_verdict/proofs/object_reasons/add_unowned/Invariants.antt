use Rattle.std.proofs.Common.{◌≡◌, ◌++◌, ◌-◌, length}
use Rattle.std.specs.List.{filter_map, range_with_len}
use Rattle.capi_verdict.specs.ObjectReasons.{unowned_reason, unowned_reasons}
use Rattle.capi_verdict.proofs.object_reasons.add_unowned.Given as goal

-- with the reasons of the relocations that are left, all are there
abbrev pub invariant-loop-number : goal.invariant-loop-number
invariant-loop-number l =
    l.reasons ++ filter_map (unowned_reason l.records l.programs) (range_with_len l.number (length l.records - l.number))
    ≡ l.fn.reasons ++ unowned_reasons l.records l.programs
