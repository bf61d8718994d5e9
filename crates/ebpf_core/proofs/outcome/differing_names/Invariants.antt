use Rattle.std.proofs.Common.{◌≡◌, drop}
use Rattle.ebpf_core.proofs.LocalSides.{onto}
use Rattle.ebpf_core.specs.Outcomes.{differing_names}
use Rattle.ebpf_core.proofs.outcome.differing_names.Given as goal

abbrev pub invariant-loop-other : goal.invariant-loop-other
invariant-loop-other l =
    onto l.names (differing_names l.target l.first (drop l.other-index l.others)) ≡ differing_names l.target l.first l.others
