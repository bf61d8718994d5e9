use Rattle.std.proofs.Common.{◌≡◌, ap, ◌∙◌, subst, sym, rules, Some}
use Rattle.std.specs.FinMap.{insert, get}
use Rattle.std.specs.Option.{OnSome, option_copied_mut}
use Rattle.ebpf_kconfig.specs.KconfigMaps.{layout_key, with_extern_in}
use Rattle.ebpf_kconfig.proofs.layout.add_extern.Goals as goal

pub returns-in_ok-insert-in-Some : goal.returns-in_ok-insert-in-Some
returns-in_ok-insert-in-Some c =
    let m = c.args.groups.now in
    let wanted = c.args.wanted in
    let w = c.insert.new.self in
    let key = c.layout_key-key.result in
    let inner : w ≡ insert c.in-Some.group.now wanted.name wanted = search rules in
    let found : get m (layout_key wanted) ≡ Some c.in-Some.group.now = ap (get m) (sym c.layout_key-key.ensures) ∙ sym c.get_mut.ensures.value ∙ ap option_copied_mut c.in-Some.is in
    subst (λ r. OnSome r (c.get_mut.follows.lender w ≡ insert m key w)) c.in-Some.is (c.get_mut.follows.holds w)
    ∙ ap (λ k. insert m k w) c.layout_key-key.ensures
    ∙ ap (insert m (layout_key wanted)) inner
    ∙ sym (ap (with_extern_in m wanted) found)
