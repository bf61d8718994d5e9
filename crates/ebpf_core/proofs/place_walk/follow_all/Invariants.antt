use Rattle.std.proofs.Common.{◌≡◌, drop}
use Rattle.ebpf_core.specs.Places.{place_after}
use Rattle.ebpf_core.proofs.place_walk.follow_all.Given as goal

-- the steps that are left lead from here to where all of them lead
abbrev pub invariant-loop-by : goal.invariant-loop-by
invariant-loop-by l = place_after l.local l.target (drop l.by-index l.path) l.spot ≡ place_after l.local l.target l.path l.fn.from
