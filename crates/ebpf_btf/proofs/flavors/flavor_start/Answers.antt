use Rattle.std.proofs.Common.{◌≡◌, ◌+◌, ◌-◌, ◌<◌, ◌≤◌, length, get_or, false, arith, refl, sym, ◌∙◌}
use Rattle.std.specs.List.{starts_with}
use Rattle.std.specs.Prelude.{drop, nat_eq}
use Rattle.ebpf_btf.specs.EssentialNames.{flavor_mark}
use Rattle.ebpf_btf.proofs.Essentials.{past_end, past_one, past_three}
use Rattle.ebpf_btf.proofs.flavors.flavor_start.Goals as goal

pub loop-index-preserved-then-name-index-ne95 : goal.loop-index-preserved-then-name-index-ne95
loop-index-preserved-then-name-index-ne95 c =
    let name = c.args.name.now in
    let index = c.loop-index.index in
    let inside : index + 2 < length name = omega (arith, c.loop-index-test.true) in
    let other : (get_or name (index + 2) 0 ≡ 95) → ⊥ = λ e. c.if-name-index-ne95.true e in
    record { inside = omega arith; rest = past_three name index inside other ∙ c.loop-index.invariant.rest }

pub loop-index-preserved : goal.loop-index-preserved
loop-index-preserved c =
    let name = c.args.name.now in
    let index = c.loop-index.index in
    let inside : index < length name = omega (arith, c.loop-index-test.true) in
    let closed : starts_with nat_eq (drop index name) flavor_mark ≡ false = sym c.is_flavor_at.ensures ∙ c.if-is_flavor_at.false in
    record { inside = omega arith; rest = past_one name index (index + 1) refl inside closed ∙ c.loop-index.invariant.rest }

pub returns-clause-first : goal.returns-clause-first
returns-clause-first c =
    let few : length c.args.name.now - c.loop-index.index ≤ 2 = c.loop-index-test.false in
    sym (past_end c.args.name.now c.loop-index.index few) ∙ c.loop-index.invariant.rest
