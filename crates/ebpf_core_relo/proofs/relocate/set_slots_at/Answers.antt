use Rattle.std.proofs.Common.{◌≡◌, ap, ◌∙◌, subst, sym}
use Rattle.std.specs.FinMap.{insert}
use Rattle.std.specs.Option.{OnSome, option_copied_mut}
use Rattle.ebpf_core_relo.specs.PrivateContracts.{with_slots_at}
use Rattle.ebpf_core_relo.proofs.relocate.set_slots_at.Goals as goal

pub returns : goal.returns
returns c =
    let m = c.args.functions.now in
    let key = c.args.key in
    subst (λ r. OnSome r (c.get_mut.follows.lender c.set_slots.new.function ≡ insert m key c.set_slots.new.function)) c.in-Some.is (c.get_mut.follows.holds c.set_slots.new.function)
    ∙ ap (insert m key) c.set_slots.ensures
    ∙ sym (ap (with_slots_at m key c.args.slots) (sym c.get_mut.follows.claims ∙ ap option_copied_mut c.in-Some.is))
