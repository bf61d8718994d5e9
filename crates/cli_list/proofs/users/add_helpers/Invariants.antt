use Rattle.std.proofs.Common.{◌≡◌}
use Rattle.cli_list.specs.PrivateContracts.{with_users}
use Rattle.cli_list.proofs.users.add_helpers.Given as goal

-- with the helper functions that are left, all are there
abbrev pub invariant-loop-helper : goal.invariant-loop-helper
invariant-loop-helper l = with_users l.program l.users l.helper-iterator ≡ with_users l.program l.fn.users l.helpers.keys
