use Rattle.std.proofs.Common.{◌≡◌}
use Rattle.std.specs.Prelude.{not}
use Rattle.std.specs.FinMap.{contains_key, empty, entries}
use Rattle.std.specs.List.{filter}
use Rattle.ebpf_base.specs.Maps.{by_bytes, put_all}
use Rattle.ebpf_chosen_programs.proofs.programs.remaining_programs.Given as goal

-- with those of the programs that are left, all are there
abbrev pub invariant-loop-name : goal.invariant-loop-name
invariant-loop-name l = put_all l.left (filter (λ e. not (contains_key l.left_out e.0)) (by_bytes l.name-iterator)) ≡ put_all empty (filter (λ e. not (contains_key l.left_out e.0)) (entries l.fn.programs))
