use Rattle.std.proofs.Common.{◌≡◌, ◌++◌, ◌-◌, length}
use Rattle.std.specs.List.{filter_map, range_with_len}
use Rattle.ebpf_verdict.specs.Verdicts.{refused_at, refused_in}
use Rattle.ebpf_verdict.proofs.programs.refused_in.Given as goal

-- with those of the relocations that are left, all are there
abbrev pub invariant-loop-number : goal.invariant-loop-number
invariant-loop-number l =
    l.refused ++ filter_map (refused_at l.copies l.records) (range_with_len l.number (length l.records - l.number)) ≡ refused_in l.copies l.records
