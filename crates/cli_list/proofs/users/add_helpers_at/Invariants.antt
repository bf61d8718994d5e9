use Rattle.std.proofs.Common.{◌≡◌, drop}
use Rattle.cli_list.specs.PrivateContracts.{helpers_at, with_users}
use Rattle.cli_list.proofs.users.add_helpers_at.Given as goal

-- with those of the functions that are left, all are there
abbrev pub invariant-loop-key : goal.invariant-loop-key
invariant-loop-key l =
    with_users l.program l.users (helpers_at l.by_function (drop l.key-index l.keys)) ≡ with_users l.program l.fn.users (helpers_at l.by_function l.keys)
