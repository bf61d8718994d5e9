use Rattle.std.proofs.Common.{sym, ap, ◌∙◌}
use Rattle.ebpf_ksyms.specs.Externs.{is_typeless}
use Rattle.ebpf_object.specs.TypedExterns.{has_extern}
use Rattle.ebpf_object.proofs.Values.{any_text}
use Rattle.capi_rows.proofs.wanted.any_typeless.Goals as goal

pub returns : goal.returns
returns c =
    c.typeless_among.ensures.found
    ∙ sym (any_text is_typeless c.as_map.result.now.entries c.typeless_among.ensures.rising)
    ∙ ap (has_extern is_typeless) c.as_map.ensures
