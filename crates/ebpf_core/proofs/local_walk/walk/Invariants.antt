use Rattle.std.proofs.Common.{◌≡◌, drop}
use Rattle.ebpf_core.specs.LocalPaths.{spot_after}
use Rattle.ebpf_core.proofs.local_walk.walk.Given as goal

-- the parts that are left lead from here to where all of them lead
abbrev pub invariant-loop-part : goal.invariant-loop-part
invariant-loop-part l =
    spot_after l.local l.request.number l.request.access.now (drop l.part-index l.parts) l.from
    ≡ spot_after l.local l.request.number l.request.access.now l.parts l.fn.start
