use Rattle.capi_exports.specs.Settings.{with_setting}
use Rattle.capi_rows.specs.Handles.{IsSet}
use Rattle.capi_exports.proofs.Handles.{maps_set}
use Rattle.capi_exports.proofs.map_settings.set_held.Goals as goal

pub returns : goal.returns
returns c =
    maps_set (IsSet (with_setting c.args.setting) c.args.name.now) c.args.held.now c.set_map.result c.set_map.new.maps
    c.in_default.ensures c.set_map.ensures
