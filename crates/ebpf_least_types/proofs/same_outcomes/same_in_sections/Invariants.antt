use Rattle.std.proofs.Common.{◌≡◌, take}
use Rattle.ebpf_least_types.specs.LeastTypes.{HaveOutcomesBySection}
use Rattle.ebpf_least_types.proofs.same_outcomes.same_in_sections.Given as goal

-- the searches are as before, and the relocations of the sections so far have the same outcomes
abbrev pub invariant-loop-section : goal.invariant-loop-section
invariant-loop-section l = record {
  kernel : l.kernel ≡ l.fn.kernel;
  types : l.types ≡ l.fn.types;
  same : HaveOutcomesBySection l.fn.kernel.local l.fn.kernel.target l.fn.types.target (take l.section-index l.sections);
}
