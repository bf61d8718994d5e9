use Rattle.std.proofs.Common.{◌≡◌, ap, ◌∙◌, subst, sym, rules, Some}
use Rattle.std.specs.FinMap.{insert, get}
use Rattle.std.specs.Option.{OnSome, option_copied_mut}
use Rattle.cli_list.specs.PrivateContracts.{noted, with_user_beside}
use Rattle.cli_list.proofs.users.add_caller.Goals as goal

pub returns-in_ok-note-in-Some : goal.returns-in_ok-note-in-Some
returns-in_ok-note-in-Some c =
    let m = c.args.users.now in
    let helper = c.args.helper in
    let n = c.args.program in
    let w = c.note.new.numbers in
    let inner : w ≡ noted c.in-Some.numbers.now n = search rules in
    let found : get m helper ≡ Some c.in-Some.numbers.now = sym c.get_mut.ensures.value ∙ ap option_copied_mut c.in-Some.is in
    subst (λ r. OnSome r (c.get_mut.follows.lender w ≡ insert m helper w)) c.in-Some.is (c.get_mut.follows.holds w)
    ∙ ap (insert m helper) inner
    ∙ sym (ap (with_user_beside m helper n) found)
