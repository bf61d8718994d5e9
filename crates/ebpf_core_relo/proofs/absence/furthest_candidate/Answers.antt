use Rattle.std.proofs.Common.{ℕ, ◌+◌, ◌∙◌, ap, arith, drop, get_or, sym}
use Rattle.std.specs.Prelude.{fold}
use Rattle.std.proofs.lemmas.List.{drop_more}
use Rattle.ebpf_core_relo.specs.Absences.{further, reach}
use Rattle.ebpf_core_relo.specs.declared.absence.Furthest.{Furthest}
use Rattle.ebpf_core_relo.proofs.FurthestOnes.{one_further, reach_within}
use Rattle.ebpf_core_relo.proofs.absence.furthest_candidate.Goals as goal

pub loop-candidate-preserved : goal.loop-candidate-preserved
loop-candidate-preserved c =
    let local = c.args.local.now in
    let target = c.args.target.now in
    let path = c.args.path.now in
    let ids = c.args.candidates.now in
    let i = c.loop-candidate.candidate-index in
    let id = get_or ids i 0 in
    let next = λ (so_far : Furthest) (n : ℕ). further so_far n (reach local target path n) in
    record {
      within = omega (arith, reach_within local target path id);
      rest =
          ap (λ last. fold next last (drop (i + 1) ids)) (sym (one_further c.loop-candidate.last id (reach local target path id) c.in_ok-steps.steps c.in_ok-steps.ensures c.if-steps-last.false))
          ∙ ap (fold next c.loop-candidate.last) (sym (drop_more ids i 0 c.loop-candidate-test.true))
          ∙ c.loop-candidate.invariant.rest;
    }
