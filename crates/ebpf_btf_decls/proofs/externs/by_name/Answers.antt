use Rattle.std.proofs.Common.{rules, ◌≡◌, ◌∙◌, ◌+◌, None, Some, drop, sym, ap}
use Rattle.std.specs.Prelude.{slice_get}
use Rattle.std.specs.FinMap.{insert}
use Rattle.std.specs.List.{zip}
use Rattle.ebpf_base.specs.Maps.{put_all}
use Rattle.ebpf_btf_decls.proofs.NumberedNames.{pair_left, no_name_left, no_value_left}
use Rattle.ebpf_btf_decls.proofs.externs.by_name.Goals as goal

pub returns-in_default-clause-externs : goal.returns-in_default-clause-externs
returns-in_default-clause-externs c =
    let none : slice_get c.args.names.now c.loop-number.number ≡ None = search rules in
    ap (put_all c.loop-number.externs) (sym (no_name_left c.args.names.now c.args.last.now c.loop-number.number none)) ∙ c.loop-number.invariant

pub returns-in_default-get-clause-externs : goal.returns-in_default-get-clause-externs
returns-in_default-get-clause-externs c =
    let none : slice_get c.args.last.now c.loop-number.number ≡ None = search rules in
    ap (put_all c.loop-number.externs) (sym (no_value_left c.args.names.now c.args.last.now c.loop-number.number none)) ∙ c.loop-number.invariant

pub loop-number-preserved : goal.loop-number-preserved
loop-number-preserved c =
    let name : slice_get c.args.names.now c.loop-number.number ≡ Some c.in-Some.name.now = search rules in
    let value : slice_get c.args.last.now c.loop-number.number ≡ Some c.in-Some-get.declared.now = search rules in
    let put : c.insert.new.self ≡ insert c.loop-number.externs c.in-Some.name.now c.in-Some-get.declared.now = search rules in
    ap (λ m. put_all m (zip (drop (c.loop-number.number + 1) c.args.names.now) (drop (c.loop-number.number + 1) c.args.last.now))) put
    ∙ ap (put_all c.loop-number.externs) (sym (pair_left c.args.names.now c.args.last.now c.loop-number.number _ _ name value)) ∙ c.loop-number.invariant
