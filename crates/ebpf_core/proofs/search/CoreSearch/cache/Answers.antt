use Rattle.std.proofs.Common.{◌≡◌, Ok, ap, sym, ◌∙◌}
use Rattle.ebpf_core.specs.Searches.{outcome_of, Sides}
use Rattle.ebpf_core.proofs.Searching.{one_more, outcomes_rest_on_questions}
use Rattle.ebpf_core.proofs.search.CoreSearch.cache.Goals as goal

pub invariant_of-self-2 : goal.invariant_of-self-2
invariant_of-self-2 c =
    let found : outcome_of c.self.inside.local.now c.self.inside.target.now c.args.relocation.now ≡ Ok c.args.outcome =
    ap (λ (s : Sides). outcome_of s.local s.target c.args.relocation.now) c.self.view_is ∙ c.requires in (
      c.self.invariant.0,
      one_more _ c.self.inside.cached c.insert.new.self c.question_of.result c.args.outcome
          (λ s asks. outcomes_rest_on_questions _ _ c.args.relocation.now s c.args.outcome (sym c.question_of.ensures ∙ sym asks) found) c.self.invariant.1
          c.in_ok-insert.ensures.updates.0,
    )
