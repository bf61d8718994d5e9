use Rattle.std.proofs.Common.{◌≡◌, drop}
use Rattle.cli_list.specs.PrivateContracts.{names_at, with_users}
use Rattle.cli_list.proofs.users.add_maps_at.Given as goal

-- with those of the functions that are left, all are there
abbrev pub invariant-loop-key : goal.invariant-loop-key
invariant-loop-key l =
    with_users l.program l.users (names_at l.uses (drop l.key-index l.keys)) ≡ with_users l.program l.fn.users (names_at l.uses l.keys)
