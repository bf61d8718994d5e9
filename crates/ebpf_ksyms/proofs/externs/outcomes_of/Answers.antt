use Rattle.std.proofs.Common.{◌≡◌, subst}
use Rattle.std.specs.Prelude.{IfOk}
use Rattle.std.specs.Option.{option_copied}
use Rattle.ebpf_ksyms.specs.PrivateContracts.{outcome_by_ids, untyped_by, value_named}
use Rattle.ebpf_ksyms.proofs.Outcomes.{same_outcomes}
use Rattle.ebpf_ksyms.proofs.externs.outcomes_of.Goals as goal

pub returns-in-Ok : goal.returns-in-Ok
unfolding outcome_by_ids
returns-in-Ok c =
    subst (λ es. IfOk c.outcomes_by_ids.result (λ outcomes. outcomes.items ≡ es)) (same_outcomes c.args.local.now c.args.all.now (value_named c.in-Ok.ids) (untyped_by (option_copied c.args.addresses)) (option_copied c.args.kernel) c.in-Ok.ensures.known) c.outcomes_by_ids.ensures
