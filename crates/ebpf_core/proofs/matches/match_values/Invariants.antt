use Rattle.std.proofs.Common.{◌≡◌, drop}
use Rattle.ebpf_core.proofs.LocalSides.{onto}
use Rattle.ebpf_core.specs.Answers.{each}
use Rattle.ebpf_core.specs.Outcomes.{match_value}
use Rattle.ebpf_core.proofs.matches.match_values.Given as goal

abbrev pub invariant-loop-found : goal.invariant-loop-found
invariant-loop-found l =
    onto l.values (each (match_value l.target l.kind) (drop l.found-index l.matches)) ≡ each (match_value l.target l.kind) l.matches
