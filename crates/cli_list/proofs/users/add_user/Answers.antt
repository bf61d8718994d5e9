use Rattle.std.proofs.Common.{◌≡◌, ap, ◌∙◌, subst, sym, rules, Some}
use Rattle.std.specs.FinMap.{insert, get}
use Rattle.std.specs.Option.{OnSome, option_copied_mut}
use Rattle.cli_list.specs.PrivateContracts.{noted, with_user_beside}
use Rattle.cli_list.proofs.users.add_user.Goals as goal

pub returns-in_ok-note-in-Some : goal.returns-in_ok-note-in-Some
returns-in_ok-note-in-Some c =
    let m = c.args.users.now in
    let name = c.args.name.now in
    let n = c.args.program in
    let w = c.note.new.numbers in
    let inner : w ≡ noted c.in-Some.numbers.now n = search rules in
    let found : get m name ≡ Some c.in-Some.numbers.now = sym c.get_mut.ensures.value ∙ ap option_copied_mut c.in-Some.is in
    subst (λ r. OnSome r (c.get_mut.follows.lender w ≡ insert m name w)) c.in-Some.is (c.get_mut.follows.holds w)
    ∙ ap (insert m name) inner
    ∙ sym (ap (with_user_beside m name n) found)
