use Rattle.std.proofs.Common.{◌≡◌, drop}
use Rattle.std.specs.FinMap.{empty}
use Rattle.cli_list.specs.PrivateContracts.{helpers_of, users_from}
use Rattle.cli_list.proofs.users.callers.Given as goal

-- with the programs that are left, all are there
abbrev pub invariant-loop-program : goal.invariant-loop-program
invariant-loop-program l =
    users_from (helpers_of l.by_function) l.program l.users (drop l.program l.layouts) ≡ users_from (helpers_of l.by_function) 0 empty l.layouts
