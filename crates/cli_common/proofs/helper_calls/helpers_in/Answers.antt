use Rattle.std.proofs.Common.{◌≡◌, [], arith}
use Rattle.std.proofs.lemmas.Grind.{common_steps}
use Rattle.std.specs.BTreeSet.{insert_key}
use Rattle.std.specs.Ordering.{nat_cmp}
use Rattle.std.specs.Prelude.{fold}
use Rattle.cli_common.specs.HelperCalls.{helpers_called}
use Rattle.cli_common.proofs.helper_calls.helpers_in.Goals as goal

pub returns : goal.returns
returns c =
    let keys : c.loop-slot.helpers.keys ≡ fold (insert_key nat_cmp) [] (helpers_called c.args.slots.now) = grind (arith, common_steps) in
    λ i. record { keys = keys i }
