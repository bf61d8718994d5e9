use Rattle.capi_exports.specs.Settings.{IsDataSet}
use Rattle.capi_exports.proofs.Handles.{maps_set}
use Rattle.capi_exports.proofs.map_settings.set_held_data.Goals as goal

pub returns : goal.returns
returns c =
    maps_set (IsDataSet c.args.bytes.now c.args.name.now) c.args.held.now c.set_data.result c.set_data.new.maps
    c.in_default.ensures c.set_data.ensures
