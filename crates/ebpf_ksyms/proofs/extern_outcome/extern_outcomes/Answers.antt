use Rattle.std.proofs.Common.{◌≡◌, Some, ap, sym, subst, ◌∙◌}
use Rattle.std.specs.FinMap.{entries}
use Rattle.std.specs.Option.{option_copied}
use Rattle.std.proofs.lemmas.Result.{err_from_is_err_and}
use Rattle.ebpf_base.specs.Maps.{lent_bytes}
use Rattle.ebpf_ksyms.specs.Addresses.{is_ksyms_memory}
use Rattle.ebpf_ksyms.specs.Externs.{kernel_ids_of, wanted_names}
use Rattle.ebpf_ksyms.specs.Outcomes.{AreExternOutcomes, IsLineFault, outcomes_with, result_by}
use Rattle.ebpf_ksyms.specs.PrivateContracts.{AreRead, StopsAt, untyped_by, value_named}
use Rattle.ebpf_ksyms.specs.declared.extern_outcome.ExternResult.TheVariants.{Kept}
use Rattle.ebpf_ksyms.proofs.ByOutcomes.{all_kept, all_read, line_fault}
use Rattle.ebpf_ksyms.proofs.Reading.{match_then}
use Rattle.ebpf_ksyms.proofs.extern_outcome.extern_outcomes.Goals as goal

pub returns-in_default-clause-ok : goal.returns-in_default-clause-ok
returns-in_default-clause-ok g c =
    subst (λ b. AreExternOutcomes g.I.Iterator.next_gives c.args.lines (option_copied b) (option_copied c.args.kernel) c.args.externs.now c.from_vec.result) (sym c.in_default.is)
    (all_kept g.I.Iterator.next_gives c.args.lines (option_copied c.args.kernel) c.args.externs.now c.from_vec.result
    (c.from_vec.ensures ∙ c.in_ok-kept_outcomes.ensures ∙ ap (outcomes_with (λ _. Kept)) (c.deref.ensures.value ∙ c.in_ok-all.ensures)))

pub returns-in_err-addresses-clause-fault : goal.returns-in_err-addresses-clause-fault
returns-in_err-addresses-clause-fault g c =
    let names : lent_bytes c.deref-3.result.now ≡ wanted_names (entries c.args.externs.now) = ap lent_bytes c.deref-3.ensures.value ∙ c.in_ok-wanted_names.ensures ∙ ap wanted_names (c.deref-2.ensures.value ∙ c.in_ok-all.ensures) in
    let p = err_from_is_err_and c.from_residual-in_err-addresses.result c.from_residual-in_err-addresses.ensures.1 in
    rw (p.1, p.2) (match_then (is_ksyms_memory c.in_err-addresses.field-0.0)
    (λ h. subst (λ b. IsLineFault g.I.Iterator.next_gives c.args.lines (option_copied b) c.args.externs.now c.in_err-addresses.field-0.0) (sym c.in-Some.is)
    (line_fault g.I.Iterator.next_gives c.args.lines (option_copied c.args.kernel) c.args.externs.now c.in-Some.local.now c.in_err-addresses.field-0.0
    (subst (λ ns. StopsAt g.I.Iterator.next_gives c.args.lines ns c.in_err-addresses.field-0.0) names h)))
    c.in_err-addresses.ensures.fault)

pub returns-clause-ok : goal.returns-clause-ok
returns-clause-ok g c =
    let kernel = option_copied c.args.kernel in
    let local = c.in-Some.local.now in
    let names : lent_bytes c.deref-3.result.now ≡ wanted_names (entries c.args.externs.now) = ap lent_bytes c.deref-3.ensures.value ∙ c.in_ok-wanted_names.ensures ∙ ap wanted_names (c.deref-2.ensures.value ∙ c.in_ok-all.ensures) in
    subst (λ b. AreExternOutcomes g.I.Iterator.next_gives c.args.lines (option_copied b) kernel c.args.externs.now c.from_vec-2.result) (sym c.in-Some.is)
    (all_read g.I.Iterator.next_gives c.args.lines kernel c.args.externs.now local c.in_ok-addresses.addresses c.from_vec-2.result
    (subst (λ ns. AreRead g.I.Iterator.next_gives c.args.lines ns (value_named c.in_ok-addresses.addresses)) names c.in_ok-addresses.ensures.ok)
    (c.from_vec-2.ensures ∙ c.in_ok-outcomes.ensures ∙ ap (outcomes_with (result_by (kernel_ids_of kernel) (untyped_by (Some c.in_ok-addresses.addresses)) local kernel)) (c.deref-4.ensures.value ∙ c.in_ok-all.ensures)))
