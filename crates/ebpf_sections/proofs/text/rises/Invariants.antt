use Rattle.std.proofs.Common.{◌<◌}
use Rattle.std.specs.List.{AllAdjacentBelow}
use Rattle.ebpf_sections.proofs.text.rises.Given as goal

-- they rise so far
abbrev pub invariant-loop-index : goal.invariant-loop-index
invariant-loop-index l = AllAdjacentBelow (λ x y. x.now.address < y.now.address) l.rows l.index
