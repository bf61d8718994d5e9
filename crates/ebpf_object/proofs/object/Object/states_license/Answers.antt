use Rattle.std.proofs.Common.{codes, ap, ◌∙◌}
use Rattle.std.specs.FinMap.{contains_key}
use Rattle.ebpf_object.specs.declared.object.Object.{Object}
use Rattle.ebpf_object.proofs.Modes.{strict_license}
use Rattle.ebpf_object.proofs.object.Object.states_license.Goals as goal

pub returns-clause-stated : goal.returns-clause-stated
returns-clause-stated c mode file parsed =
    c.contains_key.ensures ∙ ap (λ (o : Object). contains_key o.section_infos (codes "license")) parsed.is ∙ strict_license file
