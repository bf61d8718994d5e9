use Rattle.std.proofs.Common.{◌≡◌, take}
use Rattle.ebpf_least_types.proofs.same_faults.same_texts.Given as goal

-- the texts so far are the same
abbrev pub invariant-loop-index : goal.invariant-loop-index
invariant-loop-index l = take l.index l.first ≡ take l.index l.second
