use Rattle.std.proofs.Common.{◌≡◌, drop}
use Rattle.std.specs.BTreeSet.{insert_key}
use Rattle.std.specs.Prelude.{fold}
use Rattle.ebpf_base.specs.Maps.{key_cmp}
use Rattle.cli_list.proofs.layout.add_reached.Given as goal

-- with the functions that are left, all are there
abbrev pub invariant-loop-function : goal.invariant-loop-function
invariant-loop-function l =
    fold (insert_key key_cmp) l.reached.keys (drop l.function-index l.functions) ≡ fold (insert_key key_cmp) l.fn.reached.keys l.functions
