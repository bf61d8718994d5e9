use Rattle.std.proofs.Common.{◌≡◌}
use Rattle.std.specs.FinMap.{empty, entries}
use Rattle.ebpf_base.specs.Maps.{entries_from}
use Rattle.cli_common.specs.HelperCalls.{put_firsts}
use Rattle.cli_common.specs.FunctionMaps.{end_of, referred}
use Rattle.cli_common.specs.PrivateContracts.{names_in, up_to}
use Rattle.cli_common.proofs.map_uses.slots_among.Given as goal

-- with those that the relocations that are left refer to, all are there
abbrev pub invariant-loop-offset : goal.invariant-loop-offset
invariant-loop-offset l =
    put_firsts l.slots (referred l.object (names_in l.names) l.function (up_to l.end l.offset-iterator))
    ≡ put_firsts empty (referred l.object (names_in l.names) l.function (up_to (end_of l.function) (entries_from l.function.section_offset (entries l.relocations))))
