use Rattle.std.proofs.Common.{◌≡◌, ◌++◌, not}
use Rattle.std.specs.BTreeSet.{contains}
use Rattle.std.specs.FinMap.{entries}
use Rattle.std.specs.List.{filter}
use Rattle.std.specs.Map.{keys_of}
use Rattle.ebpf_base.specs.Maps.{key_cmp}
use Rattle.cli_list.proofs.layout.keys_beside.Given as goal

-- with those of the functions that are left, all are there
abbrev pub invariant-loop-key : goal.invariant-loop-key
invariant-loop-key l =
    l.keys.items ++ filter (λ key. not (contains key_cmp l.reached key)) (keys_of l.key-iterator)
    ≡ filter (λ key. not (contains key_cmp l.reached key)) (keys_of (entries l.object.functions))
