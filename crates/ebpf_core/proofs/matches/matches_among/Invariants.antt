use Rattle.std.proofs.Common.{◌≡◌, drop}
use Rattle.ebpf_core.proofs.LocalSides.{onto}
use Rattle.ebpf_core.specs.Outcomes.{matches}
use Rattle.ebpf_core.proofs.matches.matches_among.Given as goal

abbrev pub invariant-loop-candidate : goal.invariant-loop-candidate
invariant-loop-candidate l =
    onto l.matches (matches l.local l.target l.local_id l.path (drop l.candidate-index l.candidates)) ≡ matches l.local l.target l.local_id l.path l.candidates
