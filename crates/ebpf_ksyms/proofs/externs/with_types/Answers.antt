use Rattle.std.proofs.Common.{◌≡◌, subst}
use Rattle.std.specs.Prelude.{IfOk}
use Rattle.std.specs.Option.{option_copied}
use Rattle.ebpf_base.specs.Faults.{Refuses}
use Rattle.ebpf_ksyms.specs.Addresses.{is_ksyms_memory}
use Rattle.ebpf_ksyms.specs.PrivateContracts.{value_named}
use Rattle.ebpf_ksyms.proofs.Outcomes.{same_refused, same_renewed}
use Rattle.ebpf_ksyms.proofs.externs.with_types.Goals as goal

pub returns-clause-stands : goal.returns-clause-stands
returns-clause-stands c =
    subst (λ es. IfOk c.typed_entries.result (λ new. new.items ≡ es)) (same_renewed c.args.local.now c.args.all.now (value_named c.in_ok-ids.ids) (option_copied c.args.kernel) c.in_ok-ids.ensures.known) c.typed_entries.ensures.stands

pub returns-clause-fault : goal.returns-clause-fault
returns-clause-fault c =
    subst (λ fault. Refuses is_ksyms_memory c.typed_entries.result fault) (same_refused c.args.local.now c.args.all.now (value_named c.in_ok-ids.ids) (option_copied c.args.kernel) c.in_ok-ids.ensures.known) c.typed_entries.ensures.fault
