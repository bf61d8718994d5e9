use Rattle.ebpf_verdict.proofs.Judged.{of_refused}
use Rattle.ebpf_verdict.proofs.verdict.of_refused.Goals as goal

pub returns : goal.returns
returns c = λ kernel slots outcomes.
    of_refused c.args.object.now kernel c.args.records c.has_empty_section.result slots c.has_empty_section.ensures outcomes c.new.result c.new-2.result c.args.refusal
