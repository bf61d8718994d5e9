use Rattle.std.proofs.Common.{◌≡◌, drop}
use Rattle.std.specs.FinMap.{empty}
use Rattle.cli_list.specs.PrivateContracts.{names_of, users_from}
use Rattle.cli_list.proofs.users.users_of_maps.Given as goal

-- with the programs that are left, all are there
abbrev pub invariant-loop-program : goal.invariant-loop-program
invariant-loop-program l =
    users_from (names_of l.uses) l.program l.users (drop l.program l.layouts) ≡ users_from (names_of l.uses) 0 empty l.layouts
