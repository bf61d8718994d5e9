use Rattle.std.proofs.Common.{Some, ap, sym, ◌∙◌}
use Rattle.capi_rows.proofs.Rows.{text_is, no_text_is}
use Rattle.capi_rows.proofs.reads.text_of.Goals as goal

pub returns-in-Ok : goal.returns-in-Ok
returns-in-Ok c = ap Some c.in-Ok.ensures.cases.0 ∙ sym (text_is c.args.bytes.now c.in-Ok.ensures.cases.1)

pub returns-in-Err : goal.returns-in-Err
returns-in-Err c = sym (no_text_is c.args.bytes.now c.in-Err.ensures.cases.0)
