use Rattle.std.proofs.Common.{◌≡◌, ap, subst, ◌∙◌}
use Rattle.std.specs.Prelude.{IfOk}
use Rattle.ebpf_ksyms.proofs.Results.{refuses}
use Rattle.ebpf_ksyms.specs.Outcomes.{refusal_of, with_result}
use Rattle.ebpf_ksyms.proofs.externs.typed_entry.Goals as goal

pub returns-in-Ok-clause-stands : goal.returns-in-Ok-clause-stands
returns-in-Ok-clause-stands c = subst (λ r. IfOk c.entry_after.result (λ e. e ≡ (c.args.entry.now.0, with_result c.args.entry.now.1 r))) c.in-Ok.ensures c.entry_after.ensures.stands

pub returns-in-Ok-clause-fault : goal.returns-in-Ok-clause-fault
returns-in-Ok-clause-fault c = refuses c.entry_after.result _ (c.entry_after.ensures.fault ∙ ap refusal_of c.in-Ok.ensures)
