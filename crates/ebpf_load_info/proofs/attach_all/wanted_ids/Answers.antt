use Rattle.std.proofs.Common.{◌≡◌, ◌<◌, ◌≤◌, ◌+◌, ◌∙◌, ap, length, arith, sym, true}
use Rattle.std.specs.List.{list_all}
use Rattle.ebpf_load_info.specs.PrivateContracts.{is_found}
use Rattle.ebpf_load_info.proofs.Wanted.{all_found, none_left, one_found, one_passed}
use Rattle.ebpf_load_info.proofs.attach_all.wanted_ids.Goals as goal

pub loop-id-preserved-then-not-is_wanted : goal.loop-id-preserved-then-not-is_wanted
loop-id-preserved-then-not-is_wanted c =
    let inside : c.loop-id.id < length c.args.types.now.types = omega arith in
    one_passed c.args.types.now c.args.wanted.now c.loop-id.id c.loop-id.ids c.loop-id.invariant inside (sym c.is_wanted.ensures ∙ c.if-not-is_wanted.true)

pub loop-id-preserved : goal.loop-id-preserved
loop-id-preserved c =
    let inside : c.loop-id.id < length c.args.types.now.types = omega arith in
    one_found c.args.types.now c.args.wanted.now c.loop-id.id c.loop-id.ids c.loop-id.invariant inside c.push.new.self c.in_ok-push.ensures.ok

pub returns : goal.returns
returns c =
    let past : length c.args.types.now.types ≤ c.loop-id.id = omega arith in
    all_found c.args.types.now c.args.wanted.now c.loop-id.id c.loop-id.ids c.loop-id.invariant past

pub returns-then-have_all : goal.returns-then-have_all
returns-then-have_all c =
    let inside : c.loop-id.id < length c.args.types.now.types = omega arith in
    let types = c.args.types.now in
    let all = c.args.wanted.now in
    let found : list_all (is_found types c.push.new.self) all ≡ true =
    ap (λ ids. list_all (is_found types ids) all) (sym c.as_slice.ensures) ∙ sym c.have_all.ensures ∙ c.if-have_all.true in
    none_left types all (c.loop-id.id + 1) c.push.new.self
    (one_found types all c.loop-id.id c.loop-id.ids c.loop-id.invariant inside c.push.new.self c.in_ok-push.ensures.ok) found
