use Rattle.std.proofs.Common.{◌≡◌, refl, subst, ap, ◌∙◌}
use Rattle.std.specs.FinMap.{insert}
use Rattle.std.specs.Option.{OnSome}
use Rattle.capi_exports.specs.Settings.{with_setting}
use Rattle.capi_exports.proofs.Handles.{no_text, no_map, one_map}
use Rattle.capi_exports.proofs.map_settings.set_map.Goals as goal

pub returns-in_default : goal.returns-in_default
returns-in_default c = no_text (with_setting c.args.setting) c.args.name.now c.args.maps.now _ c.in_default.ensures.cases.0 refl

pub returns-in_default-get_mut : goal.returns-in_default-get_mut
returns-in_default-get_mut c =
    no_map (with_setting c.args.setting) c.args.name.now c.args.maps.now _ c.in-Ok.name.now c.in-Ok.ensures.cases.0 c.in-Ok.ensures.cases.1 c.in_default-get_mut.ensures.value c.get_mut.follows.holds-at-none

pub returns : goal.returns
returns c =
    let w = c.set.new.map in
    one_map (with_setting c.args.setting) c.args.name.now c.args.maps.now _ c.in-Ok.name.now c.in-Some.map.now c.in-Ok.ensures.cases.0 c.in-Ok.ensures.cases.1 c.in-Some.ensures.value
    (subst (λ r. OnSome r (c.get_mut.follows.lender w ≡ insert c.args.maps.now c.in-Ok.name.now w)) c.in-Some.is (c.get_mut.follows.holds w)
    ∙ ap (λ n. insert c.args.maps.now n w) c.in-Ok.ensures.cases.0 ∙ ap (insert c.args.maps.now c.args.name.now) c.set.ensures)
