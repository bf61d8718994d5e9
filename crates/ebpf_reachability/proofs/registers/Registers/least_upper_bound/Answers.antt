use Rattle.std.proofs.Common.{◌≡◌, ℕ, List, length, Option, ap, arith}
use Rattle.ebpf_reachability.specs.declared.registers.Registers.{Registers}
use Rattle.ebpf_reachability.specs.PrivateContracts.{commons}
use Rattle.ebpf_reachability.proofs.Monotone.{commons_filled}
use Rattle.ebpf_reachability.proofs.registers.Registers.least_upper_bound.Goals as goal

pub returns : goal.returns
returns c =
    let mine : length c.args.self.now.numbers ≡ 11 = omega arith in
    let theirs : length c.args.other.now.numbers ≡ 11 = omega arith in
    let invariant = c.loop-register.invariant in
    let as_many = invariant.as_many in
    let all : c.loop-register.numbers ≡ commons c.args.self.now.numbers c.args.other.now.numbers = commons_filled _ _ _ (omega arith) (omega arith) (λ k l. invariant.so_far k (omega arith)) in
    let make : List (Option ℕ) → Registers = λ numbers. record { numbers = numbers } in
    ap make all
