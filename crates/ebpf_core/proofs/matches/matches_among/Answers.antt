use Rattle.std.proofs.Common.{◌+◌, drop, sym, ap, ◌∙◌, arith}
use Rattle.ebpf_core.specs.Outcomes.{matches}
use Rattle.ebpf_core.proofs.LocalSides.{onto}
use Rattle.ebpf_core.proofs.MatchSteps.{match_kept, match_passed, match_refused}
use Rattle.ebpf_core.proofs.matches.matches_among.Goals as goal

pub returns-in_err-found : goal.returns-in_err-found
returns-in_err-found c =
    match_refused c.args.local.now c.args.target.now c.args.local_id c.args.path.now c.loop-candidate.matches c.args.candidates.now c.loop-candidate.candidate-index
    (omega arith) _ _ _ c.from_residual.ensures.1 c.in_err-found.ensures c.loop-candidate.invariant

pub loop-candidate-preserved-in_default : goal.loop-candidate-preserved-in_default
loop-candidate-preserved-in_default c =
    sym (match_passed c.args.local.now c.args.target.now c.args.local_id c.args.path.now c.loop-candidate.matches c.args.candidates.now c.loop-candidate.candidate-index
    (omega arith) _ c.in_ok-found.ensures c.in_default.is)
    ∙ c.loop-candidate.invariant

pub loop-candidate-preserved : goal.loop-candidate-preserved
loop-candidate-preserved c =
    ap (λ kept. onto kept (matches c.args.local.now c.args.target.now c.args.local_id c.args.path.now (drop (c.loop-candidate.candidate-index + 1) c.args.candidates.now))) c.in_ok-push.ensures.ok
    ∙ sym (match_kept c.args.local.now c.args.target.now c.args.local_id c.args.path.now c.loop-candidate.matches c.args.candidates.now c.loop-candidate.candidate-index
    (omega arith) _ c.in-Some.found c.in_ok-found.ensures c.in-Some.is)
    ∙ c.loop-candidate.invariant
