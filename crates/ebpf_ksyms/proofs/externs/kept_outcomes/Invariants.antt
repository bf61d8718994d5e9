use Rattle.std.proofs.Common.{◌≡◌, ◌++◌, drop}
use Rattle.ebpf_ksyms.specs.Outcomes.{outcomes_with}
use Rattle.ebpf_ksyms.specs.declared.extern_outcome.ExternResult.TheVariants.{Kept}
use Rattle.ebpf_ksyms.proofs.externs.kept_outcomes.Given as goal

-- with those of the externs that are left, all are there
abbrev pub invariant-loop-entry : goal.invariant-loop-entry
invariant-loop-entry l = l.outcomes.items ++ outcomes_with (λ _. Kept) (drop l.entry-index l.all) ≡ outcomes_with (λ _. Kept) l.all
