use Rattle.std.proofs.Common.{◌≡◌, ◌<◌, length, get_or, Option, None, arith, subst, sym}
use Rattle.ebpf_reachability.specs.declared.registers.Registers.{Registers}
use Rattle.ebpf_reachability.specs.Reached.{state_at}
use Rattle.ebpf_reachability.proofs.Order.{on_ok_both}
use Rattle.ebpf_reachability.proofs.Visiting.{new_taken, taken_as}
use Rattle.ebpf_reachability.proofs.search.Search.reach.Goals as goal

pub returns-in-None : goal.returns-in-None
returns-in-None c =
    let A = c.args.self.now.states.items in
    let place = c.args.step.place in
    let theirs : length c.args.step.registers.numbers ≡ 11 = omega arith in
    let within : place < length A = omega (arith, c.args.self.now.states.ok.0, c.requires) in
    let none : state_at A place ≡ None = sym (subst (λ (x : Option Registers). x ≡ get_or A place x) c.in-None.is c.index.ensures) in
    let taken = new_taken A c.args.self.now.pending.items place c.args.step.registers within none theirs in
    on_ok_both c.put.result c.put.ensures.states c.put.ensures.pending (λ s p. taken_as _ _ _ _ _ _ _ s p taken)
