use Rattle.std.proofs.Common.{◌≡◌, ◌++◌, [], ◌∷◌, drop, map}
use Rattle.ebpf_linker.specs.Copies.{Fit}
use Rattle.ebpf_linker.specs.LinkMap.{copies_from, numbered_copy}
use Rattle.ebpf_linker.specs.Numbered.{functions_by_number}
use Rattle.ebpf_linker.proofs.link_map.copies_of.Given as goal

-- the copies so far, and those of the functions that are left
abbrev pub invariant-loop-function : goal.invariant-loop-function
invariant-loop-function l = record {
  whole : l.copies.items ++ map numbered_copy (copies_from (functions_by_number l.bodies []) l.end (drop l.function-index l.reached)) ≡ map numbered_copy (copies_from (functions_by_number l.bodies []) 0 (l.start ∷ l.reached));
  fit : Fit l.bodies l.end (drop l.function-index l.reached);
}
