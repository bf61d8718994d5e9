use Rattle.std.proofs.Common.{◌≡◌, take}
use Rattle.std.specs.Prelude.{All}
use Rattle.ebpf_least_types.specs.LeastTypes.{HasSameOutcome}
use Rattle.ebpf_least_types.proofs.same_outcomes.same_in_section.Given as goal

-- the searches are as before, and the relocations so far have the same outcomes
abbrev pub invariant-loop-relocation : goal.invariant-loop-relocation
invariant-loop-relocation l = record {
  kernel : l.kernel ≡ l.fn.kernel;
  types : l.types ≡ l.fn.types;
  same : All (HasSameOutcome l.fn.kernel.local l.fn.kernel.target l.fn.types.target) (take l.relocation-index l.records);
}
