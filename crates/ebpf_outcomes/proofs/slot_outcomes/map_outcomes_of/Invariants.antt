use Rattle.std.proofs.Common.{◌≡◌, map, take}
use Rattle.ebpf_outcomes.specs.SlotOutcomes.{map_outcome}
use Rattle.ebpf_outcomes.proofs.slot_outcomes.map_outcomes_of.Given as goal

-- the outcomes so far, with names
abbrev pub invariant-loop-slot : goal.invariant-loop-slot
invariant-loop-slot l = l.outcomes.items ≡ map (map_outcome l.names l.object.symbol_table) (take l.slot-index l.slots)
