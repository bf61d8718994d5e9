use Rattle.std.specs.FinMap.{entries}
use Rattle.capi_rows.specs.ProgramRows.{program_row}
use Rattle.capi_rows.specs.declared.codes.TheConstants.{NO_PROGRAM}
use Rattle.capi_rows.proofs.Rows.{row_by_text}
use Rattle.capi_rows.proofs.maps.program_named.Goals as goal

pub returns-in-Some-get : goal.returns-in-Some-get
returns-in-Some-get c =
    row_by_text NO_PROGRAM (program_row c.args.object.now.functions (entries c.args.object.now.section_infos)) c.args.object.now.programs c.args.name.now c.in-Some.text.now c.in-Some-get.program.now
    c.program_row.result c.in-Some.ensures c.in-Some-get.ensures c.program_row.ensures
