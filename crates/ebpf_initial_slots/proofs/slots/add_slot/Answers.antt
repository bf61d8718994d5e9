use Rattle.std.proofs.Common.{◌≡◌, ap, ◌∙◌, subst, sym, rules, Some}
use Rattle.std.specs.FinMap.{insert, get}
use Rattle.std.specs.Option.{OnSome, option_copied_mut}
use Rattle.ebpf_initial_slots.specs.InitialSlots.{with_slot_in}
use Rattle.ebpf_initial_slots.proofs.slots.add_slot.Goals as goal

pub returns-in_ok-insert-in-Some : goal.returns-in_ok-insert-in-Some
returns-in_ok-insert-in-Some c =
    let m = c.args.found.now in
    let slot = c.args.slot in
    let w = c.insert.new.self in
    let inner : w ≡ insert c.in-Some.own.now slot.index slot = search rules in
    let found : get m slot.map ≡ Some c.in-Some.own.now = ap (get m) (sym c.as_str.ensures) ∙ sym c.get_mut.ensures.value ∙ ap option_copied_mut c.in-Some.is in
    subst (λ r. OnSome r (c.get_mut.follows.lender w ≡ insert m c.as_str.result.now w)) c.in-Some.is (c.get_mut.follows.holds w)
    ∙ ap (λ k. insert m k w) c.as_str.ensures
    ∙ ap (insert m slot.map) inner
    ∙ sym (ap (with_slot_in m slot) found)
