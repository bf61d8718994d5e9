use Rattle.std.proofs.Common.{◌≡◌, ◌-◌, drop}
use Rattle.ebpf_core_candidates.specs.Compatibility.{compared_from}
use Rattle.ebpf_core_candidates.proofs.Comparisons.{rest_alike}
use Rattle.ebpf_core_candidates.proofs.compatible.+compare.Given as goal

abbrev pub decreases-compare : goal.decreases-compare
decreases-compare l = l.levels

-- the parameters that are left, and then what the types hold, give what the pair gives
abbrev pub invariant-loop-k : goal.invariant-loop-k
invariant-loop-k l =
    let local = l.fn.sides.local.now.types in
    let target = l.fn.sides.target.now.types in
    rest_alike (l.levels - 1) local target l.fn.sides.root l.left l.local l.target (drop l.k l.params) (drop l.k l.others)
    ≡ compared_from l.levels local target l.fn.sides.root l.fn.left l.fn.pair
