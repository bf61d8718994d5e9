use Rattle.std.proofs.Common.{◌≡◌, ◌++◌, ◌∷◌, drop}
use Rattle.ebpf_linker.specs.Copies.{Fit, references_of_copies}
use Rattle.ebpf_linker.proofs.link_map.references_of.Given as goal

-- the references so far, and those of the functions that are left
abbrev pub invariant-loop-function : goal.invariant-loop-function
invariant-loop-function l = record {
  whole : l.references.items ++ references_of_copies l.functions.bodies.now l.functions.references.now l.bases l.base (drop l.function-index l.reached) ≡ references_of_copies l.functions.bodies.now l.functions.references.now l.bases 0 (l.start ∷ l.reached);
  fit : Fit l.functions.bodies.now l.base (drop l.function-index l.reached);
}
