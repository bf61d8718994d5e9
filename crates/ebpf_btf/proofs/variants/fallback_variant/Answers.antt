use Rattle.std.proofs.Common.{Some, ap, sym, ◌∙◌}
use Rattle.std.specs.Prelude.{option_map}
use Rattle.std.proofs.lemmas.Option.{slice_get-map}
use Rattle.ebpf_btf.specs.Variants.{variant_of_fallback}
use Rattle.ebpf_btf.proofs.variants.fallback_variant.Goals as goal

pub returns : goal.returns
returns c =
    ap Some c.variant_of_fallback.ensures
    ∙ ap (option_map variant_of_fallback) c.in_ok-variant.ensures
    ∙ sym (slice_get-map variant_of_fallback c.args.fallback.now.variants c.args.index)
