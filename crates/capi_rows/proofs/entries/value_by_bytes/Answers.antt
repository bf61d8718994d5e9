use Rattle.std.proofs.Common.{ap, sym, ◌∙◌}
use Rattle.std.specs.FinMap.{get}
use Rattle.capi_rows.proofs.Fills.{named_by_text, named_by_none}
use Rattle.capi_rows.proofs.entries.value_by_bytes.Goals as goal

pub returns-in-Ok : goal.returns-in-Ok
returns-in-Ok g c =
    c.get.ensures ∙ ap (get c.args.values.now) c.in-Ok.ensures.cases.0 ∙ sym (named_by_text c.args.values.now c.args.name.now c.in-Ok.ensures.cases.1)

pub returns-in-Err : goal.returns-in-Err
returns-in-Err g c = sym (named_by_none c.args.values.now c.args.name.now c.in-Err.ensures.cases.0)
