use Rattle.std.proofs.Common.{ap, ◌∙◌, subst, true}
use Rattle.ebpf_object.proofs.Staging.{of_error, of_prepared}
use Rattle.ebpf_object.specs.LinkedPrograms.{linkable_of, programs_in_order}
use Rattle.ebpf_outcomes.specs.PassOutcomes.{AreLinkMaps}
use Rattle.ebpf_object.specs.Prepared.{RefusesPreparing}
use Rattle.ebpf_object.specs.Stages.{Wrapped}
use Rattle.ebpf_object.specs.declared.prepare_error.PrepareError.TheVariants.{Calls}
use Rattle.ebpf_reloc.specs.Linking.{AreLinked, IsFirstRefusal}
use Rattle.ebpf_reloc.specs.SlotTargets.{read}
use Rattle.ebpf_outcomes.proofs.outcomes.programs_of.Goals as goal

pub returns-clause-linked : goal.returns-clause-linked
returns-clause-linked c =
    let o = c.args.object.now in
    let parts = c.in-Ok.ensures.parts ∙ ap (linkable_of o) c.in_ok-sections.ensures in
    let programs = c.deref.ensures.value ∙ c.in_ok-programs.ensures in
    of_prepared c.linked_programs.result
    (λ l are.
    subst (λ x. AreLinked x (programs_in_order o.programs) l.functions) parts
    (subst (λ ps. AreLinked (read c.in-Ok.numbered.functions.parts) ps l.functions) programs are))
    c.linked_programs.ensures.linked

pub returns-clause-link_maps : goal.returns-clause-link_maps
returns-clause-link_maps c =
    let o = c.args.object.now in
    let parts = c.in-Ok.ensures.parts ∙ ap (linkable_of o) c.in_ok-sections.ensures in
    let programs = c.deref.ensures.value ∙ c.in_ok-programs.ensures in
    of_prepared c.linked_programs.result
    (λ l are.
    subst (λ x. AreLinkMaps x (programs_in_order o.programs) l.link_maps) parts
    (subst (λ ps. AreLinkMaps (read c.in-Ok.numbered.functions.parts) ps l.link_maps) programs are))
    c.linked_programs.ensures.link_maps

pub returns-clause-fault : goal.returns-clause-fault
returns-clause-fault c =
    let o = c.args.object.now in
    let parts = c.in-Ok.ensures.parts ∙ ap (linkable_of o) c.in_ok-sections.ensures in
    let programs = c.deref.ensures.value ∙ c.in_ok-programs.ensures in
    of_error c.linked_programs.result
    (λ e refused.
    subst (λ x. RefusesPreparing (Wrapped Calls (IsFirstRefusal x (programs_in_order o.programs))) e) parts
    (subst (λ ps. RefusesPreparing (Wrapped Calls (IsFirstRefusal (read c.in-Ok.numbered.functions.parts) ps)) e) programs refused))
    c.linked_programs.ensures.fault
