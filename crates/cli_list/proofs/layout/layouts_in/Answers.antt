use Rattle.std.proofs.Common.{◌+◌, ◌≤◌, length, rules, subst, sym}
use Rattle.cli_list.proofs.Using.{Completes, none_left, one_more}
use Rattle.cli_list.specs.Listings.{IsLayout}
use Rattle.cli_list.proofs.layout.layouts_in.Goals as goal

pub loop-program-preserved : goal.loop-program-preserved
loop-program-preserved c =
    let programs = c.args.programs.now in
    let i = c.loop-program.program-index in
    subst (λ all. Completes (IsLayout c.args.maps.now.object.now) programs (i + 1) all) (sym c.in_ok-push.ensures.ok)
    (one_more (IsLayout c.args.maps.now.object.now) programs i c.program-item.result c.loop-program.all c.in_ok-layout_of.field-0 c.loop-program-test.true c.program-item.is c.in_ok-layout_of.ensures c.loop-program.invariant)

pub returns : goal.returns
returns c =
    let past : length c.args.programs.now ≤ c.loop-program.program-index = search rules in
    none_left (IsLayout c.args.maps.now.object.now) c.args.programs.now c.loop-program.program-index c.loop-program.all past c.loop-program.invariant
