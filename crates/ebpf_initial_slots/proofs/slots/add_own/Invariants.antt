use Rattle.std.proofs.Common.{◌≡◌, ◌++◌, map}
use Rattle.std.specs.FinMap.{entries}
use Rattle.ebpf_initial_slots.proofs.slots.add_own.Given as goal

-- with the slots that are left, all are there
abbrev pub invariant-loop-slot : goal.invariant-loop-slot
invariant-loop-slot l = l.all ++ map (λ s. s.1) l.slot-iterator ≡ l.fn.all ++ map (λ s. s.1) (entries l.own)
