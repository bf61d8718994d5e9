use Rattle.cli_list.proofs.Using.{Completes}
use Rattle.cli_list.specs.Listings.{IsOfOne}
use Rattle.cli_list.proofs.layout.unlinked_layouts.Given as goal

-- with the layouts of the programs that are left, all are there
abbrev pub invariant-loop-program : goal.invariant-loop-program
invariant-loop-program l = Completes IsOfOne l.programs l.program-index l.all
