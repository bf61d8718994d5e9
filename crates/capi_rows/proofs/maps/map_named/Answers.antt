use Rattle.capi_rows.specs.MapRows.{map_row}
use Rattle.capi_rows.specs.declared.codes.TheConstants.{NO_MAP}
use Rattle.capi_rows.proofs.Rows.{row_by_text}
use Rattle.capi_rows.proofs.maps.map_named.Goals as goal

pub returns-in-Some-get : goal.returns-in-Some-get
returns-in-Some-get c =
    row_by_text NO_MAP (map_row c.args.object.now.btf) c.args.object.now.maps c.args.name.now c.in-Some.text.now c.in-Some-get.map.now
    c.map_row.result c.in-Some.ensures c.in-Some-get.ensures c.map_row.ensures
