use Rattle.std.proofs.Common.{◌≡◌, ap, ◌∙◌, subst, sym}
use Rattle.std.specs.FinMap.{insert}
use Rattle.std.specs.Option.{OnSome, option_copied_mut}
use Rattle.ebpf_core_relo.specs.PrivateContracts.{with_span}
use Rattle.ebpf_core_relo.proofs.spans.add.Goals as goal

pub returns-in_ok-push-in-Some : goal.returns-in_ok-push-in-Some
returns-in_ok-push-in-Some c =
    let m = c.args.sections.now in
    let n = c.args.section in
    subst (λ r. OnSome r (c.get_mut.follows.lender c.push.new.self ≡ insert m n c.push.new.self)) c.in-Some.is (c.get_mut.follows.holds c.push.new.self)
    ∙ ap (insert m n) c.in_ok-push-in-Some.ensures
    ∙ sym (ap (with_span m n c.args.span) (sym c.get_mut.follows.claims ∙ ap option_copied_mut c.in-Some.is))
