use Rattle.std.proofs.Common.{◌+◌, ◌≤◌, length, rules, subst, sym}
use Rattle.cli_list.proofs.Using.{Completes, none_left, one_more}
use Rattle.cli_list.specs.Listings.{IsOfOne}
use Rattle.cli_list.proofs.layout.unlinked_layouts.Goals as goal

pub loop-program-preserved : goal.loop-program-preserved
loop-program-preserved c =
    let programs = c.args.programs.now in
    let i = c.loop-program.program-index in
    subst (λ all. Completes IsOfOne programs (i + 1) all) (sym c.in_ok-push.ensures.ok)
    (one_more IsOfOne programs i c.program-item.result c.loop-program.all c.in_ok-unlinked.field-0 c.loop-program-test.true c.program-item.is c.in_ok-unlinked.ensures c.loop-program.invariant)

pub returns : goal.returns
returns c =
    let past : length c.args.programs.now ≤ c.loop-program.program-index = search rules in
    none_left IsOfOne c.args.programs.now c.loop-program.program-index c.loop-program.all past c.loop-program.invariant
