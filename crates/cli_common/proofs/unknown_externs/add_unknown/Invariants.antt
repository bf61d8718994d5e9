use Rattle.std.proofs.Common.{◌≡◌}
use Rattle.std.specs.FinMap.{entries}
use Rattle.ebpf_base.specs.Maps.{by_bytes, mapped_entries}
use Rattle.cli_common.specs.HelperCalls.{put_firsts}
use Rattle.cli_common.specs.ObjectPrograms.{unknown}
use Rattle.cli_common.proofs.unknown_externs.add_unknown.Given as goal

-- with the externs that are left, all are there
abbrev pub invariant-loop-name : goal.invariant-loop-name
invariant-loop-name l =
    put_firsts l.written (mapped_entries unknown (by_bytes l.name-iterator)) ≡ put_firsts l.fn.written (mapped_entries unknown (entries l.all))
