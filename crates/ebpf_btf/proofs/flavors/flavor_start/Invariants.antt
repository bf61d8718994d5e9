use Rattle.std.proofs.Common.{◌≡◌, ◌-◌, ◌≤◌, length}
use Rattle.ebpf_btf.specs.EssentialNames.{flavor_start}
use Rattle.ebpf_btf.proofs.Essentials.{flavor_from}
use Rattle.ebpf_btf.proofs.flavors.flavor_start.Given as goal

abbrev pub invariant-loop-index : goal.invariant-loop-index
invariant-loop-index l = record {
  inside : l.index ≤ length l.name;
  rest : flavor_from l.name l.index ≡ flavor_start l.name;
}

abbrev pub decreases-loop-index : goal.decreases-loop-index
decreases-loop-index l = length l.name - l.index
