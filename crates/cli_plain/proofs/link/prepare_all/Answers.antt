use Rattle.std.proofs.Common.{ap, ◌∙◌, map, subst}
use Rattle.std.specs.Prelude.{pos}
use Rattle.std.specs.Option.{option_copied}
use Rattle.cli_common.proofs.DefaultPasses.{all_default_passes}
use Rattle.ebpf_object.specs.Headline.{Headline}
use Rattle.ebpf_object.specs.Stages.{chosen, descriptor_of, numbered_descriptors}
use Rattle.cli_plain.proofs.link.prepare_all.Goals as goal
use Rattle.ebpf_parts.specs.declared.parse_mode.ParseMode.TheVariants.{Strict}

pub returns-in-Ok-prepare_object-clause-headline : goal.returns-in-Ok-prepare_object-clause-headline
returns-in-Ok-prepare_object-clause-headline g c file parsed =
    let all = all_default_passes (option_copied c.args.types) c.args.object.maps (chosen c.all_with.result) (map descriptor_of c.deref.result.now) c.all_with.ensures
    (ap (map descriptor_of) c.deref.ensures.value ∙ c.in-Ok-numbered_descriptors.ensures ∙ ap (numbered_descriptors (pos 0)) (c.as_slice.ensures ∙ c.in-Ok.ensures))
    in
    subst (λ steps. Headline steps (g.K.SymbolSource.source c.args.kallsyms) Strict file c.in-Ok-prepare_object.object) all (c.in-Ok-prepare_object.ensures.headline Strict file parsed)
