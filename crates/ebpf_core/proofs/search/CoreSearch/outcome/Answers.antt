use Rattle.ebpf_core.specs.Laws.{OutcomeIsRefused}
use Rattle.ebpf_core.proofs.Refused.{outcome_first, refused_so}
use Rattle.ebpf_core.proofs.search.CoreSearch.outcome.Goals as goal

pub returns-clause-refused : goal.returns-clause-refused
returns-clause-refused c =
    refused_so (OutcomeIsRefused c.args.self.now.local c.args.self.now.target c.args.relocation.now) _
    (outcome_first c.args.self.now.local c.args.self.now.target c.args.relocation.now) _ c.cached_outcome.ensures.outcome
