use Rattle.std.proofs.Common.{◌≡◌, drop}
use Rattle.cli_list.specs.PrivateContracts.{use_names, with_users}
use Rattle.cli_list.proofs.users.add_maps.Given as goal

-- with the maps that are left, all are there
abbrev pub invariant-loop-used : goal.invariant-loop-used
invariant-loop-used l = with_users l.program l.users (use_names (drop l.used-index l.uses)) ≡ with_users l.program l.fn.users (use_names l.uses)
