use Rattle.std.proofs.Common.{ap, ◌∙◌, subst, sym}
use Rattle.cli_list.specs.Listings.{AreLayouts}
use Rattle.ebpf_object.proofs.Staging.{of_prepared}
use Rattle.ebpf_object.specs.Headline.{linkable}
use Rattle.ebpf_object.specs.LinkedPrograms.{linkable_of}
use Rattle.cli_list.proofs.layout.layouts.Goals as goal

pub layouts_in-requires : goal.layouts_in-requires
layouts_in-requires c =
    c.in-Ok.ensures.parts ∙ ap (linkable_of c.args.object.now) c.in_ok-sections.ensures ∙ sym (ap linkable c.in-Ok.ensures.object)

pub returns : goal.returns
returns c =
    of_prepared c.layouts_in.result (λ all are. subst (λ o. AreLayouts o c.args.programs.now all) c.in-Ok.ensures.object are) c.layouts_in.ensures
