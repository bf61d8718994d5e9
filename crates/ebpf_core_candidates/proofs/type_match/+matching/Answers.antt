use Rattle.std.proofs.Common.{◌-◌, ◌∙◌, Ok, ap, refl, sym, arith}
use Rattle.ebpf_btf.specs.Memory.{is_btf_memory}
use Rattle.ebpf_core_candidates.specs.TypeMatches.{matched_from, param_matches, part_is_found, part_matches, parts_of}
use Rattle.ebpf_core_candidates.proofs.Refusals.{exact, handed_on, refused}
use Rattle.ebpf_core_candidates.proofs.TypeMatching.{all_fails, all_on, all_stops, any_fails, any_on, any_stops, both_fail, both_none, both_on, both_stop, fails_by, holds_by, no_level, one_level, walk_ends, walk_fails, walk_on, walk_over}
use Rattle.ebpf_core_candidates.proofs.type_match.+matching.Goals as goal

-- ---- one part of a name

pub any_part-returns-in_err-found : goal.any_part-returns-in_err-found
any_part-returns-in_err-found t c =
    let test = part_matches (matched_from c.args.sides.now c.args.below) c.args.sides.now c.args.name.now c.args.part in
    refused is_btf_memory is_btf_memory c.in_err-found.field-0.0 c.in_err-found.field-0.0 _ c.from_residual.result _
    (handed_on c.from_residual.result c.in_err-found.field-0.0 c.from_residual.ensures.1) refl
    (λ is. sym c.loop-k.invariant ∙ any_fails test (parts_of c.args.target.now) c.loop-k.k c.loop-k.left _ (sym c.in-Some.ensures) _ is)
    c.in_err-found.ensures

pub any_part-returns-then-found : goal.any_part-returns-then-found
any_part-returns-then-found t c =
    let test = part_matches (matched_from c.args.sides.now c.args.below) c.args.sides.now c.args.name.now c.args.part in
    sym c.loop-k.invariant ∙ any_stops test (parts_of c.args.target.now) c.loop-k.k c.loop-k.left _ (sym c.in-Some.ensures) _ c.in_ok-found.ensures c.if-found.true

pub any_part-loop-k-preserved : goal.any_part-loop-k-preserved
any_part-loop-k-preserved t c =
    let test = part_matches (matched_from c.args.sides.now c.args.below) c.args.sides.now c.args.name.now c.args.part in
    sym (any_on test (parts_of c.args.target.now) c.loop-k.k c.loop-k.left _ (sym c.in-Some.ensures) _ c.in_ok-found.ensures c.if-found.false) ∙ c.loop-k.invariant

-- ---- all parts

pub parts_match-returns-in_err-found : goal.parts_match-returns-in_err-found
parts_match-returns-in_err-found t c =
    let test = part_is_found (matched_from c.args.sides.now c.args.below) c.args.sides.now (parts_of c.args.target.now) in
    refused is_btf_memory is_btf_memory c.in_err-found.field-0.0 c.in_err-found.field-0.0 _ c.from_residual.result _
    (handed_on c.from_residual.result c.in_err-found.field-0.0 c.from_residual.ensures.1) refl
    (λ is. sym c.loop-k.invariant ∙ all_fails test (parts_of c.args.local.now) c.loop-k.k c.loop-k.left _ (sym c.in-Some.ensures) _ is)
    c.in_err-found.ensures

pub parts_match-returns-then-not-found : goal.parts_match-returns-then-not-found
parts_match-returns-then-not-found t c =
    let test = part_is_found (matched_from c.args.sides.now c.args.below) c.args.sides.now (parts_of c.args.target.now) in
    sym c.loop-k.invariant ∙ all_stops test (parts_of c.args.local.now) c.loop-k.k c.loop-k.left _ (sym c.in-Some.ensures) _ c.in_ok-found.ensures (fails_by _ c.if-not-found.true)

pub parts_match-loop-k-preserved : goal.parts_match-loop-k-preserved
parts_match-loop-k-preserved t c =
    let test = part_is_found (matched_from c.args.sides.now c.args.below) c.args.sides.now (parts_of c.args.target.now) in
    sym (all_on test (parts_of c.args.local.now) c.loop-k.k c.loop-k.left _ (sym c.in-Some.ensures) _ c.in_ok-found.ensures (holds_by _ c.if-not-found.false)) ∙ c.loop-k.invariant

-- ---- parameters

pub parameters_match-returns-in_default : goal.parameters_match-returns-in_default
parameters_match-returns-in_default t c =
    let test = param_matches (matched_from c.args.sides.now c.args.below) c.args.behind_pointer in
    exact is_btf_memory _ _ (sym c.loop-k.invariant ∙ both_none test c.args.local.now c.args.target.now c.loop-k.k c.loop-k.left (sym c.in_default.ensures) ∙ sym c.answer.ensures)

pub parameters_match-returns-in_err-found : goal.parameters_match-returns-in_err-found
parameters_match-returns-in_err-found t c =
    let test = param_matches (matched_from c.args.sides.now c.args.below) c.args.behind_pointer in
    refused is_btf_memory is_btf_memory c.in_err-found.field-0.0 c.in_err-found.field-0.0 _ c.from_residual.result _
    (handed_on c.from_residual.result c.in_err-found.field-0.0 c.from_residual.ensures.1) refl
    (λ is. sym c.loop-k.invariant ∙ both_fail test c.args.local.now c.args.target.now c.loop-k.k c.loop-k.left _ _ c.at.ensures.found (sym c.in-Some.ensures) _ is)
    c.in_err-found.ensures

pub parameters_match-returns-then-not-found : goal.parameters_match-returns-then-not-found
parameters_match-returns-then-not-found t c =
    let test = param_matches (matched_from c.args.sides.now c.args.below) c.args.behind_pointer in
    sym c.loop-k.invariant ∙ both_stop test c.args.local.now c.args.target.now c.loop-k.k c.loop-k.left _ _ c.at.ensures.found (sym c.in-Some.ensures) _ c.in_ok-found.ensures (fails_by _ c.if-not-found.true)

pub parameters_match-loop-k-preserved : goal.parameters_match-loop-k-preserved
parameters_match-loop-k-preserved t c =
    let test = param_matches (matched_from c.args.sides.now c.args.below) c.args.behind_pointer in
    sym (both_on test c.args.local.now c.args.target.now c.loop-k.k c.loop-k.left _ _ c.at.ensures.found (sym c.in-Some.ensures) _ c.in_ok-found.ensures (holds_by _ c.if-not-found.false)) ∙ c.loop-k.invariant

-- ---- a walk

pub matched-returns-then-levels-eq0 : goal.matched-returns-then-levels-eq0
matched-returns-then-levels-eq0 t c =
    exact is_btf_memory _ _ (no_level c.args.sides.now c.args.levels c.args.left c.args.pair (omega arith) ∙ sym c.too_many.ensures)

pub matched-returns-in_err-found : goal.matched-returns-in_err-found
matched-returns-in_err-found t c =
    let below = matched_from c.args.sides.now (c.args.levels - 1) in
    refused is_btf_memory is_btf_memory c.in_err-found.field-0.0 c.in_err-found.field-0.0 _ c.from_residual.result _
    (handed_on c.from_residual.result c.in_err-found.field-0.0 c.from_residual.ensures.1) refl
    (λ is. sym c.loop-step.invariant ∙ walk_fails below c.args.sides.now c.loop-step._step c.loop-step.left c.loop-step.pair (omega arith) _ is)
    c.in_err-found.ensures

pub matched-returns-in-Found : goal.matched-returns-in-Found
matched-returns-in-Found t c =
    let below = matched_from c.args.sides.now (c.args.levels - 1) in
    sym c.loop-step.invariant ∙ walk_ends below c.args.sides.now c.loop-step._step c.loop-step.left c.loop-step.pair (omega arith) _ (c.in_ok-found.ensures ∙ ap Ok c.in-Found.is)

pub matched-loop-step-init : goal.matched-loop-step-init
matched-loop-step-init t c = sym (one_level c.args.sides.now c.args.levels c.args.left c.args.pair (omega arith))

pub matched-loop-step-preserved : goal.matched-loop-step-preserved
matched-loop-step-preserved t c =
    let below = matched_from c.args.sides.now (c.args.levels - 1) in
    sym (walk_on below c.args.sides.now c.loop-step._step c.loop-step.left c.loop-step.pair (omega arith) _ _ (c.in_ok-found.ensures ∙ ap Ok c.in-Onward.is)) ∙ c.loop-step.invariant

pub matched-returns : goal.matched-returns
matched-returns t c =
    let below = matched_from c.args.sides.now (c.args.levels - 1) in
    exact is_btf_memory _ _ (sym c.loop-step.invariant ∙ walk_over below c.args.sides.now c.loop-step._step c.loop-step.left c.loop-step.pair (omega arith) ∙ sym c.too_many-2.ensures)
