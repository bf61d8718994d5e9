use Rattle.std.proofs.Common.{◌≡◌}
use Rattle.ebpf_base.specs.Maps.{put_all, map_values, mapped_entries}
use Rattle.cli_common.specs.HelperCalls.{helper_set}
use Rattle.cli_common.proofs.helper_calls.helpers_by_function.Given as goal

-- with those of the functions that are left, all are there
abbrev pub invariant-loop-key : goal.invariant-loop-key
invariant-loop-key l = put_all l.all (mapped_entries helper_set l.key-iterator) ≡ map_values helper_set l.object.functions
