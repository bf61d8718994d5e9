use Rattle.std.proofs.Common.{◌≡◌, ◌≢◌, ◌<◌, length, Some, arith, sym, ◌∙◌, ap}
use Rattle.ebpf_reachability.specs.declared.registers.Registers.{Registers}
use Rattle.ebpf_reachability.specs.PrivateContracts.{least_upper_bound}
use Rattle.std.proofs.Common.{set}
use Rattle.ebpf_reachability.proofs.Order.{registers_same, registers_apart, on_ok_both}
use Rattle.ebpf_reachability.proofs.Visiting.{met_taken, same_taken, taken_as}
use Rattle.ebpf_reachability.proofs.search.Search.join_state.Goals as goal

pub returns-then-eq : goal.returns-then-eq
returns-then-eq c =
    let mine : length c.args.before.numbers ≡ 11 = omega arith in
    let theirs : length c.args.step.registers.numbers ≡ 11 = omega arith in
    let same : least_upper_bound c.args.before c.args.step.registers ≡ c.args.before = sym c.least_upper_bound-registers.ensures ∙ registers_same _ _ c.if-eq.ensures in
    same_taken c.args.self.now.states.items c.args.self.now.pending.items c.args.step.place c.args.step.registers c.args.before c.requires.before (omega arith) same

pub returns : goal.returns
returns c =
    let A = c.args.self.now.states.items in
    let old = c.args.self.now.pending.items in
    let place = c.args.step.place in
    let registers = c.args.step.registers in
    let mine : length c.args.before.numbers ≡ 11 = omega arith in
    let theirs : length c.args.step.registers.numbers ≡ 11 = omega arith in
    let within : place < length A = omega (arith, c.args.self.now.states.ok.0, c.requires.within) in
    let apart : least_upper_bound c.args.before registers ≢ c.args.before = λ e. registers_apart _ _ c.if-eq.ensures (c.least_upper_bound-registers.ensures ∙ e) in
    let taken = met_taken A old place registers c.args.before within c.requires.before (omega arith) apart in
    on_ok_both c.put.result c.put.ensures.states c.put.ensures.pending (λ s p. taken_as _ _ _ _ _ _ _ (s ∙ ap (λ (u : Registers). set A place (Some u)) c.least_upper_bound-registers.ensures) p taken)
