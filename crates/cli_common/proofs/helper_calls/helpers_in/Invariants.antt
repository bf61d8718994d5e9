use Rattle.std.proofs.Common.{◌≡◌, [], drop}
use Rattle.std.specs.BTreeSet.{insert_key}
use Rattle.std.specs.Ordering.{nat_cmp}
use Rattle.std.specs.Prelude.{fold}
use Rattle.cli_common.specs.HelperCalls.{helpers_called}
use Rattle.cli_common.proofs.helper_calls.helpers_in.Given as goal

-- with those that the slots that are left call, all are there
abbrev pub invariant-loop-slot : goal.invariant-loop-slot
invariant-loop-slot l =
    fold (insert_key nat_cmp) l.helpers.keys (helpers_called (drop l.slot-index l.slots))
    ≡ fold (insert_key nat_cmp) [] (helpers_called l.slots)
