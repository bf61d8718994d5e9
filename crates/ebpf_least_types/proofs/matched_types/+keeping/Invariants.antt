use Rattle.std.proofs.Common.{◌+◌, ◌*◌}
use Rattle.ebpf_least_types.proofs.matched_types.+keeping.Given as goal

-- each function calls those of lower rank on its level, and `keep_match` on the level below

abbrev pub decreases-keep_named_parts : goal.decreases-keep_named_parts
decreases-keep_named_parts l = 8 * l.below + 1

abbrev pub decreases-keep_parts : goal.decreases-keep_parts
decreases-keep_parts l = 8 * l.below + 2

abbrev pub decreases-keep_parameters : goal.decreases-keep_parameters
decreases-keep_parameters l = 8 * l.below + 1

abbrev pub decreases-keep_match : goal.decreases-keep_match
decreases-keep_match l = 8 * l.levels

abbrev pub decreases-keep_inner : goal.decreases-keep_inner
decreases-keep_inner l = 8 * l.below + 3
