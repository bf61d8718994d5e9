use Rattle.ebpf_core.specs.Laws.{AmongIsRefused}
use Rattle.ebpf_core.proofs.Refused.{among_first, refused_so}
use Rattle.ebpf_core.proofs.outcome.outcome_among.Goals as goal

pub returns-clause-refused : goal.returns-clause-refused
returns-clause-refused c =
    refused_so (AmongIsRefused c.args.local.now c.args.target.now c.args.relocation.now c.args.path.now c.args.candidates.now) _
    (among_first c.args.local.now c.args.target.now c.args.relocation.now c.args.path.now c.args.candidates.now) _ c.outcome_by_matches.ensures
