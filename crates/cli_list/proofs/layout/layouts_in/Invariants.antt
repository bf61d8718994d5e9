use Rattle.cli_list.proofs.Using.{Completes}
use Rattle.cli_list.specs.Listings.{IsLayout}
use Rattle.cli_list.proofs.layout.layouts_in.Given as goal

-- with the layouts of the programs that are left, all are there
abbrev pub invariant-loop-program : goal.invariant-loop-program
invariant-loop-program l = Completes (IsLayout l.maps.object.now) l.programs l.program-index l.all
