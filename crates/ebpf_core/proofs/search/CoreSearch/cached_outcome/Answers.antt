use Rattle.std.proofs.Common.{◌≡◌, Some, sym, ap, ◌∙◌}
use Rattle.std.specs.BTreeMap.{get}
use Rattle.std.specs.Option.{option_copied}
use Rattle.ebpf_core.specs.Searches.{question_cmp, outcome_of, Sides}
use Rattle.ebpf_core.proofs.search.CoreSearch.cached_outcome.Goals as goal

pub returns-in-Some-clause-outcome : goal.returns-in-Some-clause-outcome
returns-in-Some-clause-outcome c =
    let there : get question_cmp c.self.inside.cached c.question_of.result ≡ Some c.in-Some.outcome.now = sym c.get.ensures.value ∙ ap option_copied c.in-Some.is in
    sym (ap (λ (s : Sides). outcome_of s.local s.target c.args.relocation.now) c.self.view_is)
    ∙ c.self.invariant.1 c.question_of.result c.in-Some.outcome.now there c.args.relocation.now (sym c.question_of.ensures)
