use Rattle.std.proofs.Common.{◌≡◌, drop}
use Rattle.ebpf_base.specs.Maps.{put_all}
use Rattle.capi_verdict.specs.Assumed.{settings_found}
use Rattle.capi_verdict.proofs.assumed.add_settings.Given as goal

-- with the externs that are left, all are there
abbrev pub invariant-loop-setting : goal.invariant-loop-setting
invariant-loop-setting l = put_all l.externs (settings_found (drop l.setting-index l.settings)) ≡ put_all l.fn.externs (settings_found l.settings)
