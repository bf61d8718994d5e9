use Rattle.std.proofs.Common.{◌∙◌}
use Rattle.capi_rows.proofs.NumberNames.{named}
use Rattle.capi_rows.proofs.codes.name_in_all.Goals as goal

pub returns : goal.returns
returns c = c.name_by.ensures ∙ named c.args.number c.args.stages.now c.requires
