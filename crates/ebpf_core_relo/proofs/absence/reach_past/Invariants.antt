use Rattle.std.proofs.Common.{◌≡◌, ◌⊎◌, true}
use Rattle.ebpf_core_relo.specs.Absences.{leads}
use Rattle.ebpf_core_relo.proofs.absence.reach_past.Given as goal

-- so many steps are known, or lead somewhere
abbrev pub invariant-loop-steps : goal.invariant-loop-steps
invariant-loop-steps l = (l.steps ≡ l.known) ⊎ (leads l.local l.target l.path l.candidate l.steps ≡ true)
