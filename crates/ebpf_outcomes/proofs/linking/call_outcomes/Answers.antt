use Rattle.std.proofs.Common.{ap, ◌∙◌, subst}
use Rattle.ebpf_object.proofs.Staging.{of_prepared}
use Rattle.ebpf_object.specs.LinkedPrograms.{linkable_of, programs_in_order}
use Rattle.ebpf_outcomes.specs.CallOutcomes.{AreCallOutcomes}
use Rattle.ebpf_reloc.specs.SlotTargets.{read}
use Rattle.ebpf_outcomes.proofs.linking.call_outcomes.Goals as goal

pub returns : goal.returns
returns c =
    let o = c.args.object.now in
    let parts = c.in-Ok.ensures.parts ∙ ap (linkable_of o) c.in_ok-sections.ensures in
    let programs = c.deref.ensures.value ∙ c.in_ok-programs.ensures in
    of_prepared c.outcomes_of.result
    (λ outcomes are.
    subst (λ x. AreCallOutcomes x (programs_in_order o.programs) outcomes) parts
    (subst (λ ps. AreCallOutcomes (read c.in-Ok.numbered.functions.parts) ps outcomes) programs are))
    c.outcomes_of.ensures
