use Rattle.std.proofs.Common.{◌≡◌, None, ap, sym, subst, ◌∙◌}
use Rattle.std.specs.Option.{option_copied}
use Rattle.ebpf_ksyms.specs.Externs.{kernel_ids_of}
use Rattle.ebpf_ksyms.specs.Outcomes.{outcomes_with, result_by, typed_outcomes}
use Rattle.ebpf_ksyms.specs.PrivateContracts.{untyped_by}
use Rattle.ebpf_ksyms.specs.declared.extern_outcome.ExternResult.TheVariants.{Kept}
use Rattle.ebpf_ksyms.proofs.extern_outcome.typed_outcomes.Goals as goal

pub returns-in_default : goal.returns-in_default
unfolding typed_outcomes
returns-in_default c =
    subst (λ b. c.from_vec.result ≡ typed_outcomes (option_copied b) (option_copied c.args.kernel) c.args.externs.now) (sym c.in_default.is)
    (c.from_vec.ensures ∙ c.in_ok-kept_outcomes.ensures ∙ ap (outcomes_with (λ _. Kept)) (c.deref.ensures.value ∙ c.in_ok-all.ensures))

pub returns : goal.returns
unfolding typed_outcomes
returns c =
    let kernel = option_copied c.args.kernel in
    let local = c.in-Some.local.now in
    subst (λ b. c.from_vec-2.result ≡ typed_outcomes (option_copied b) kernel c.args.externs.now) (sym c.in-Some.is)
    (c.from_vec-2.ensures ∙ c.in_ok-outcomes.ensures ∙ ap (outcomes_with (result_by (kernel_ids_of kernel) (untyped_by None) local kernel)) (c.deref-2.ensures.value ∙ c.in_ok-all.ensures))
