use Rattle.std.proofs.Common.{◌≡◌, ◌+◌, suc, false, ap, arith, inr, sym, ◌∙◌}
use Rattle.ebpf_core_relo.specs.Absences.{leads}
use Rattle.ebpf_core_relo.proofs.FurthestOnes.{all_reach, reach_is}
use Rattle.ebpf_core_relo.proofs.absence.reach_past.Goals as goal

pub returns-then-not-branch : goal.returns-then-not-branch
returns-then-not-branch c =
    let n = c.loop-steps.steps in
    let on : suc n ≡ n + 1 = omega arith in
    let fails : leads c.args.local.now c.args.target.now c.args.path.now c.args.candidate (suc n) ≡ false =
    ap (leads c.args.local.now c.args.target.now c.args.path.now c.args.candidate) on ∙ sym c.in_ok-leads.ensures ∙ c.if-not-branch.true in
    reach_is c.args.local.now c.args.target.now c.args.path.now c.args.candidate c.args.known n (omega arith) (omega arith) c.loop-steps.invariant (inr fails)

pub returns : goal.returns
returns c =
    all_reach c.args.local.now c.args.target.now c.args.path.now c.args.candidate c.args.known c.loop-steps.steps c.requires (omega arith) c.loop-steps.invariant
