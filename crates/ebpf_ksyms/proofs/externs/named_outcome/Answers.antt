use Rattle.std.proofs.Common.{ap, ◌∙◌}
use Rattle.ebpf_ksyms.proofs.Results.{outcome_at}
use Rattle.ebpf_ksyms.specs.PrivateContracts.{outcome_by_ids}
use Rattle.ebpf_ksyms.proofs.externs.named_outcome.Goals as goal

pub returns : goal.returns
unfolding outcome_by_ids
returns c = c.outcome_of_entry.ensures ∙ ap (outcome_at c.args.entry.now) c.in_ok-result.ensures
