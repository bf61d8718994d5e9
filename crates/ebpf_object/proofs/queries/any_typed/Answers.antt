use Rattle.std.proofs.Common.{sym, ap, ◌∙◌}
use Rattle.ebpf_model.specs.declared.symbol.ExternDesc.{ExternDesc}
use Rattle.ebpf_object.specs.TypedExterns.{has_extern}
use Rattle.ebpf_object.proofs.Values.{any_text}
use Rattle.ebpf_object.proofs.queries.any_typed.Goals as goal

pub returns : goal.returns
returns c =
    c.typed_among.ensures.found
    ∙ sym (any_text (λ (x : ExternDesc). x.is_typed) c.as_map.result.now.entries c.typed_among.ensures.rising)
    ∙ ap (has_extern (λ (x : ExternDesc). x.is_typed)) c.as_map.ensures
