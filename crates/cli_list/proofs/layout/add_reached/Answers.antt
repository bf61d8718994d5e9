use Rattle.cli_list.proofs.Using.{gathered_more}
use Rattle.cli_list.proofs.layout.add_reached.Goals as goal

pub loop-function-preserved : goal.loop-function-preserved
loop-function-preserved c =
    gathered_more c.args.functions.now c.loop-function.function-index _ c.loop-function.reached.keys c.insert.new.self.keys _ c.loop-function-test.true c.in_ok-insert.ensures.keys c.loop-function.invariant
