use Rattle.std.proofs.Common.{◌≡◌, ◌-◌, ◌∙◌, sym, ap, drop, length, [], Ok, inl, arith}
use Rattle.std.proofs.Math.ListN.{drop_of_length-le}
use Rattle.ebpf_core_candidates.proofs.Comparisons.{compared_deep, compared_full, compared_local_fault, compared_target_fault, compared_different, compared_parts, rest_all, rest_fault, rest_different, rest_next, rest_inner, rest_none, same_count}
use Rattle.ebpf_btf.proofs.InOrder.{drop_some}
use Rattle.ebpf_core_candidates.proofs.Refusals.{handed_on}
use Rattle.ebpf_core_candidates.proofs.compatible.+compare.Goals as goal
use Rattle.ebpf_core_candidates.proofs.compatible.+compare.Goals.{then-levels-eq0-via-then-levels-eq0, then-levels-eq0-via-else-levels-eq0+then-left-eq0}

pub returns-then-levels-eq0 : goal.returns-then-levels-eq0
returns-then-levels-eq0 t c =
    elim c.then-levels-eq0.branch [
      | then-levels-eq0-via-then-levels-eq0 w ↦ sym (compared_deep _ _ _ _ _ _ (omega arith))
      | then-levels-eq0-via-else-levels-eq0+then-left-eq0 w ↦ sym (compared_full _ _ _ _ _ _ (omega arith))
    ]

pub returns-in_err-local : goal.returns-in_err-local
returns-in_err-local t c =
    handed_on c.from_residual.result c.in_err-local.field-0.0 c.from_residual.ensures.1
    ∙ sym (compared_local_fault c.args.levels _ _ _ c.args.left _ (c.args.levels - 1) (c.args.left - 1) (omega arith) (omega arith) _ (sym c.in_err-local.ensures))

pub returns-in_err-target : goal.returns-in_err-target
returns-in_err-target t c =
    handed_on c.from_residual-in_err-target.result c.in_err-target.field-0.0 c.from_residual-in_err-target.ensures.1
    ∙ sym (compared_target_fault c.args.levels _ _ _ c.args.left _ (c.args.levels - 1) (c.args.left - 1) (omega arith) (omega arith) _ _ (sym c.in_ok-local.ensures) (sym c.in_err-target.ensures))

pub returns-then-not-shallow_alike : goal.returns-then-not-shallow_alike
returns-then-not-shallow_alike t c =
    sym (compared_different c.args.levels _ _ _ c.args.left _ (c.args.levels - 1) (c.args.left - 1) (omega arith) (omega arith) _ _ (sym c.in_ok-local.ensures) (sym c.in_ok-target.ensures) (sym c.shallow_alike.ensures ∙ c.if-not-shallow_alike.true))

pub loop-k-init : goal.loop-k-init
loop-k-init t c =
    rest_all _ _ _ _ _ _ _ _ _ c.params_of-params.ensures c.params_of-others.ensures
    ∙ sym (compared_parts c.args.levels _ _ c.args.sides.root c.args.left _ (c.args.levels - 1) (c.args.left - 1) (omega arith) (omega arith) _ _ (sym c.in_ok-local.ensures) (sym c.in_ok-target.ensures) (sym c.shallow_alike.ensures ∙ c.if-not-shallow_alike.false))

pub at-requires-in-loop-k : goal.at-requires-in-loop-k
at-requires-in-loop-k t c =
    let counts : length c.params_of-params.result ≡ length c.params_of-others.result =
    ap length c.params_of-params.ensures ∙ same_count _ _ (sym c.shallow_alike.ensures ∙ c.if-not-shallow_alike.false) ∙ sym (ap length c.params_of-others.ensures) in
    omega arith

pub returns-in_err-rest : goal.returns-in_err-rest
returns-in_err-rest t c =
    let one = drop_some c.params_of-params.result c.at.result c.loop-k.k c.at.ensures.found in
    let other = drop_some c.params_of-others.result c.at-in-loop-k.result c.loop-k.k c.at-in-loop-k.ensures.found in
    handed_on c.from_residual-in_err-rest.result c.in_err-rest.field-0.0 c.from_residual-in_err-rest.ensures.1
    ∙ sym (rest_fault _ _ _ _ _ _ _ _ _ _ _ _ _ _ one other (sym c.compare.ensures ∙ c.in_err-rest.was)) ∙ c.loop-k.invariant

pub loop-k-preserved : goal.loop-k-preserved
loop-k-preserved t c =
    let one = drop_some c.params_of-params.result c.at.result c.loop-k.k c.at.ensures.found in
    let other = drop_some c.params_of-others.result c.at-in-loop-k.result c.loop-k.k c.at-in-loop-k.ensures.found in
    sym (rest_next _ _ _ _ _ _ _ _ _ _ _ _ _ _ one other (sym c.compare.ensures ∙ c.in_ok-rest.was ∙ ap Ok c.in-Alike.is)) ∙ c.loop-k.invariant

pub returns-in-Different : goal.returns-in-Different
returns-in-Different t c =
    let one = drop_some c.params_of-params.result c.at.result c.loop-k.k c.at.ensures.found in
    let other = drop_some c.params_of-others.result c.at-in-loop-k.result c.loop-k.k c.at-in-loop-k.ensures.found in
    sym (rest_different _ _ _ _ _ _ _ _ _ _ _ _ _ one other (sym c.compare.ensures ∙ c.in_ok-rest.was ∙ ap Ok c.in-Different.is)) ∙ c.loop-k.invariant

pub returns-in-Some : goal.returns-in-Some
returns-in-Some t c =
    let past : drop c.loop-k.k c.params_of-params.result ≡ [] = drop_of_length-le c.params_of-params.result (omega arith) in
    c.compare-in-Some.ensures
    ∙ sym (rest_inner _ _ _ _ _ _ _ _ _ _ _ _ (inl past) c.inner_type_id.ensures c.inner_type_id-2.ensures c.both.ensures _ c.in-Some.is)
    ∙ c.loop-k.invariant

pub returns-in-None : goal.returns-in-None
returns-in-None t c =
    let past : drop c.loop-k.k c.params_of-params.result ≡ [] = drop_of_length-le c.params_of-params.result (omega arith) in
    sym (rest_none _ _ _ _ _ _ _ _ _ _ _ _ (inl past) c.inner_type_id.ensures c.inner_type_id-2.ensures c.both.ensures c.in-None.is)
    ∙ c.loop-k.invariant
