use Rattle.std.proofs.Common.{◌≡◌, drop}
use Rattle.ebpf_base.specs.Maps.{put_all}
use Rattle.cli_common.specs.ObjectPrograms.{settings_named}
use Rattle.cli_common.proofs.unknown_externs.add_settings.Given as goal

-- with the names that are left, all are there
abbrev pub invariant-loop-name : goal.invariant-loop-name
invariant-loop-name l = put_all l.written (settings_named (drop l.name-index l.names)) ≡ put_all l.fn.written (settings_named l.names)
