use Rattle.std.proofs.Common.{◌≡◌, [], drop}
use Rattle.std.specs.BTreeSet.{insert_key}
use Rattle.std.specs.Prelude.{fold}
use Rattle.ebpf_base.specs.Maps.{key_cmp}
use Rattle.cli_list.specs.PrivateContracts.{reached_keys}
use Rattle.cli_list.proofs.layout.reached_by_some.Given as goal

-- with the functions of the programs that are left, all are there
abbrev pub invariant-loop-layout : goal.invariant-loop-layout
invariant-loop-layout l =
    fold (insert_key key_cmp) l.reached.keys (reached_keys (drop l.layout-index l.layouts)) ≡ fold (insert_key key_cmp) [] (reached_keys l.layouts)
