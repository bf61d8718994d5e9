use Rattle.std.proofs.Common.{◌≡◌, ◌++◌, ◌-◌, length}
use Rattle.std.specs.List.{filter_map, range_with_len}
use Rattle.ebpf_verdict.specs.Reasons.{reason_at, reasons_of}
use Rattle.ebpf_verdict.proofs.reasons.reasons_of.Given as goal

-- with the reasons of the slots that are left, all are there
abbrev pub invariant-loop-slot : goal.invariant-loop-slot
invariant-loop-slot l =
    l.reasons
    ++ filter_map (reason_at l.numbers.kernel l.numbers.map_types.now l.reached l.slots) (range_with_len l.slot (length l.slots - l.slot))
    ≡ reasons_of l.numbers.kernel l.numbers.map_types.now l.reached l.slots
