use Rattle.std.proofs.Common.{◌≡◌, ap, subst, ◌∙◌}
use Rattle.std.specs.Prelude.{IfOk}
use Rattle.ebpf_ksyms.proofs.Results.{address_refusal, entry_with_address, refuses}
use Rattle.ebpf_ksyms.specs.Outcomes.{refusal_of, with_result}
use Rattle.ebpf_ksyms.specs.PrivateContracts.{known_at, value_named}
use Rattle.ebpf_ksyms.proofs.externs.entry_by_address.Goals as goal

pub returns-in-Ok-clause-stands : goal.returns-in-Ok-clause-stands
returns-in-Ok-clause-stands c =
    entry_with_address c.args.entry.now (known_at (value_named c.args.addresses.now) c.args.entry.now.0) c.entry_after.result
    (subst (λ r. IfOk c.entry_after.result (λ e. e ≡ (c.args.entry.now.0, with_result c.args.entry.now.1 r))) c.in-Ok.ensures c.entry_after.ensures.stands)
    (c.entry_after.ensures.fault ∙ ap refusal_of c.in-Ok.ensures)

pub returns-in-Ok-clause-fault : goal.returns-in-Ok-clause-fault
returns-in-Ok-clause-fault c =
    refuses c.entry_after.result _ (c.entry_after.ensures.fault ∙ ap refusal_of c.in-Ok.ensures ∙ address_refusal c.args.entry.now (known_at (value_named c.args.addresses.now) c.args.entry.now.0))
