use Rattle.std.proofs.Common.{◌≡◌, ◌+◌, ◌*◌, ◌-◌, drop}
use Rattle.std.specs.List.{zip}
use Rattle.ebpf_core_candidates.specs.TypeMatches.{all_match, any_matches, matched_from, param_matches, part_is_found, part_matches, parts_of, walk}
use Rattle.ebpf_core_candidates.proofs.type_match.+matching.Given as goal

-- each function calls those of lower rank on its level, and `matched` on the level below

abbrev pub decreases-part_matches : goal.decreases-part_matches
decreases-part_matches l = 8 * l.below + 1

abbrev pub decreases-any_part : goal.decreases-any_part
decreases-any_part l = 8 * l.below + 2

abbrev pub decreases-part_is_found : goal.decreases-part_is_found
decreases-part_is_found l = 8 * l.below + 3

abbrev pub decreases-parts_match : goal.decreases-parts_match
decreases-parts_match l = 8 * l.below + 4

abbrev pub decreases-parameters_match : goal.decreases-parameters_match
decreases-parameters_match l = 8 * l.below + 4

abbrev pub decreases-walk_by_test : goal.decreases-walk_by_test
decreases-walk_by_test l = 8 * l.below + 5

abbrev pub decreases-walk_step : goal.decreases-walk_step
decreases-walk_step l = 8 * l.below + 6

abbrev pub decreases-matched : goal.decreases-matched
decreases-matched l = 8 * l.levels

-- what is left gives what all of it gives

abbrev pub invariant-any_part-loop-k : goal.invariant-any_part-loop-k
invariant-any_part-loop-k l =
    let test = part_matches (matched_from l.sides l.below) l.sides l.name l.part in
    any_matches test (drop l.k (parts_of l.target)) l.left ≡ any_matches test (parts_of l.target) l.fn.left

abbrev pub invariant-parts_match-loop-k : goal.invariant-parts_match-loop-k
invariant-parts_match-loop-k l =
    let test = part_is_found (matched_from l.sides l.below) l.sides (parts_of l.target) in
    all_match test (drop l.k (parts_of l.local)) l.left ≡ all_match test (parts_of l.local) l.fn.left

abbrev pub invariant-parameters_match-loop-k : goal.invariant-parameters_match-loop-k
invariant-parameters_match-loop-k l =
    let test = param_matches (matched_from l.sides l.below) l.behind_pointer in
    all_match test (zip (drop l.k l.local) (drop l.k l.target)) l.left ≡ all_match test (zip l.local l.target) l.fn.left

abbrev pub invariant-matched-loop-step : goal.invariant-matched-loop-step
invariant-matched-loop-step l =
    walk (matched_from l.sides (l.levels - 1)) l.sides (32 - l._step) l.left l.pair ≡ matched_from l.sides l.levels l.fn.left l.fn.pair
