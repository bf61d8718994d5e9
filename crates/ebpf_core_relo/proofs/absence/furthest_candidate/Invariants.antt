use Rattle.std.proofs.Common.{◌≡◌, ◌≤◌, drop, length}
use Rattle.std.specs.Prelude.{fold}
use Rattle.ebpf_core_relo.specs.Absences.{further, nowhere, reach}
use Rattle.ebpf_core_relo.proofs.absence.furthest_candidate.Given as goal

-- over the candidates that are left the furthest is that of all
abbrev pub invariant-loop-candidate : goal.invariant-loop-candidate
invariant-loop-candidate l = record {
  within : l.last.steps ≤ length l.path;
  rest : fold (λ so_far id. further so_far id (reach l.local l.target l.path id)) l.last (drop l.candidate-index l.candidates)
      ≡ fold (λ so_far id. further so_far id (reach l.local l.target l.path id)) nowhere l.candidates;
}
